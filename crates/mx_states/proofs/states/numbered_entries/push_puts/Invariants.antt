use Rattle.std.proofs.Common.{Some, take}
use Rattle.mx_states.specs.KeyNumbers.{AreChanges}
use Rattle.mx_states.proofs.states.numbered_entries.push_puts.Given as goal

abbrev pub invariant-loop-entry : goal.invariant-loop-entry
invariant-loop-entry l = AreChanges l.initial.keys l.keys l.initial.changes.items l.changes.items (λ v. Some v) (take l.entry-index l.entry-items)
