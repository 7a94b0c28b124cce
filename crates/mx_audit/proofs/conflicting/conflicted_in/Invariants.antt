use Rattle.std.proofs.Common.{◌≡◌, drop, filter, not}
use Rattle.mx_states.specs.Entries.{has_entry, overwritten}
use Rattle.mx_audit.proofs.conflicting.conflicted_in.Given as goal

-- the entries so far, with those that are left, are all
abbrev pub invariant-loop-entry : goal.invariant-loop-entry
invariant-loop-entry l =
    overwritten l.found (filter (λ e. not (has_entry e l.agreed)) (drop l.entry-index l.entry-items))
    ≡ filter (λ e. not (has_entry e l.agreed)) l.entry-items
