use Rattle.std.proofs.Common.{◌≡◌, drop}
use Rattle.mx_states.specs.Numbered.{restored, state_at}
use Rattle.mx_states.specs.Entries.{overwritten}
use Rattle.mx_states.proofs.states.state_changes.restored_puts.Given as goal

-- the entries so far, with those that are left, are all
abbrev pub invariant-loop-entry : goal.invariant-loop-entry
invariant-loop-entry l = overwritten l.found (restored l.differing (state_at l.states l.base) (drop l.entry-index l.entry-items)) ≡ restored l.differing (state_at l.states l.base) l.entry-items
