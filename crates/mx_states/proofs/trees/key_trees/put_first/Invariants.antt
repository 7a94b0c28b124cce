use Rattle.std.proofs.Common.{◌≡◌, drop}
use Rattle.std.specs.FinMap.Entries.{find}
use Rattle.std.specs.Ordering.{nat_cmp}
use Rattle.mx_states.proofs.trees.key_trees.put_first.Given as goal

abbrev pub invariant-loop-place : goal.invariant-loop-place
invariant-loop-place l = find nat_cmp 1 (drop l.place-index l.puts) ≡ find nat_cmp 1 l.puts
