use Rattle.std.proofs.Common.{◌≡◌, drop}
use Rattle.mx_states.specs.Numbered.{really_taken, state_at}
use Rattle.mx_states.specs.Entries.{overwritten}
use Rattle.mx_states.proofs.states.state_changes.taken_from.Given as goal

-- the entries so far, with those that are left, are all
abbrev pub invariant-loop-entry : goal.invariant-loop-entry
invariant-loop-entry l = overwritten l.found (really_taken (drop l.entry-index l.entry-items) (state_at l.states l.number) l.puts) ≡ really_taken l.entry-items (state_at l.states l.number) l.puts
