use Rattle.std.proofs.Common.{◌≡◌, ◌||◌, drop, is_some}
use Rattle.mx_pdu.specs.StateKeys.{Key}
use Rattle.mx_graph.specs.StateMap.{entry}
use Rattle.mx_states.specs.Entries.{has_missed}
use Rattle.mx_states.proofs.plain.differing_keys.put_missed.Given as goal

-- the keys so far, with those that are left, are all
abbrev pub invariant-loop-entry : goal.invariant-loop-entry
invariant-loop-entry l = (key : Key)
    → (is_some (entry l.found key) || has_missed l.other (drop l.entry-index l.entry-items) key)
    ≡ (is_some (entry l.fn.found key) || has_missed l.other l.entry-items key)
