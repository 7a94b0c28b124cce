use Rattle.std.proofs.Common.{◌≡◌, ◌+◌, map, take}
use Rattle.mx_states.proofs.trees.stored_snapshots.puts_of.Given as goal

abbrev pub invariant-loop-key : goal.invariant-loop-key
invariant-loop-key l = l.puts.items ≡ map (λ change. (change.0 + 1, change.1)) (take l.key-index l.changes)
