use Rattle.std.proofs.Common.{◌≡◌, take}
use Rattle.mx_states.specs.ChangedKeys.{changed_count}
use Rattle.mx_states.specs.Numbered.{state_at}
use Rattle.mx_states.proofs.states.change_sizes.changed_count.Given as goal

abbrev pub invariant-loop-entry : goal.invariant-loop-entry
invariant-loop-entry l = l.count ≡ changed_count l.edit.taken.now (state_at l.edit.states.now l.number) l.edit.puts.now (take l.entry-index l.entry-items)
