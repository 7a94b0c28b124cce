use Rattle.std.proofs.Common.{◌≡◌, ◌||◌, drop}
use Rattle.std.specs.Prelude.{is_some}
use Rattle.mx_pdu.specs.StateKeys.{Key}
use Rattle.mx_graph.specs.StateMap.{entry}
use Rattle.mx_states.specs.KeyNumbers.{has_number_in}
use Rattle.mx_states.proofs.states.numbered_entries.put_differing.Given as goal

abbrev pub invariant-loop-number : goal.invariant-loop-number
invariant-loop-number l = (key : Key) → (is_some (entry l.found key) || has_number_in l.keys (drop l.number-index l.differing) key) ≡ (is_some (entry l.initial.found key) || has_number_in l.keys l.differing key)
