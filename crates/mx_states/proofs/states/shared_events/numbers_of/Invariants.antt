use Rattle.std.proofs.Common.{◌≡◌, ◌<◌, ℕ, length, is_some, take}
use Rattle.std.specs.BTreeSet.{contains}
use Rattle.std.specs.Ordering.{nat_cmp}
use Rattle.mx_graph.specs.StateMap.{entry}
use Rattle.mx_states.specs.KeyNumbers.{key_at}
use Rattle.mx_states.proofs.states.shared_events.numbers_of.Given as goal

-- the numbers of the keys so far
abbrev pub invariant-loop-entry : goal.invariant-loop-entry
invariant-loop-entry l = (n : ℕ) → n < length l.keys → contains nat_cmp l.numbers n ≡ is_some (entry (take l.entry-index l.entry-items) (key_at l.keys n))
