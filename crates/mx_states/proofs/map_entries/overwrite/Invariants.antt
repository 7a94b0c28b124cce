use Rattle.std.proofs.Common.{◌≡◌, take}
use Rattle.mx_states.specs.Entries.{overwritten}
use Rattle.mx_states.proofs.map_entries.overwrite.Given as goal

-- the state with the entries so far
abbrev pub invariant-loop-entry : goal.invariant-loop-entry
invariant-loop-entry l = l.state ≡ overwritten l.fn.state (take l.entry-index l.entry-items)
