use Rattle.std.proofs.Common.{◌≡◌, drop, filter, is_none}
use Rattle.mx_graph.specs.StateMap.{entry}
use Rattle.mx_states.specs.Entries.{overwritten}
use Rattle.mx_states.proofs.plain.differing_keys.without_keys.Given as goal

-- the entries so far, with those that are left, are all
abbrev pub invariant-loop-entry : goal.invariant-loop-entry
invariant-loop-entry l =
    overwritten l.rest (filter (λ e. is_none (entry l.taken e.0)) (drop l.entry-index l.entry-items))
    ≡ filter (λ e. is_none (entry l.taken e.0)) l.entry-items
