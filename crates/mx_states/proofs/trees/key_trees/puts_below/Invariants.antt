use Rattle.std.proofs.Common.{◌≡◌, ◌++◌, drop}
use Rattle.mx_states.specs.KeyTrees.{halved}
use Rattle.mx_states.proofs.trees.key_trees.puts_below.Given as goal

abbrev pub invariant-loop-place : goal.invariant-loop-place
invariant-loop-place l = l.below.items ++ halved l.remainder (drop l.place-index l.puts) ≡ halved l.remainder l.puts
