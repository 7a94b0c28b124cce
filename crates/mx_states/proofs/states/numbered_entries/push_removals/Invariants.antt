use Rattle.std.proofs.Common.{None, take}
use Rattle.mx_states.specs.KeyNumbers.{AreChanges}
use Rattle.mx_states.proofs.states.numbered_entries.push_removals.Given as goal

abbrev pub invariant-loop-entry : goal.invariant-loop-entry
invariant-loop-entry l = AreChanges l.initial.keys l.keys l.initial.changes.items l.changes.items (λ v. None) (take l.entry-index l.entry-items)
