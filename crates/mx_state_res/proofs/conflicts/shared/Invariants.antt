use Rattle.std.proofs.Common.{◌≡◌, drop, filter}
use Rattle.std.specs.List.{list_all}
use Rattle.mx_states.specs.Entries.{has_entry, overwritten}
use Rattle.mx_state_res.proofs.conflicts.shared.Given as goal

-- the shared entries so far, with those that are left, are all
abbrev pub invariant-loop-entry : goal.invariant-loop-entry
invariant-loop-entry l =
    overwritten l.agreed (filter (λ e. list_all (λ s. has_entry e s.now) l.others) (drop l.entry-index l.entry-items))
    ≡ filter (λ e. list_all (λ s. has_entry e s.now) l.others) l.entry-items
