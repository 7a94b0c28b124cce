use Rattle.std.proofs.Common.{◌-◌, ◌≤◌, length}
use Rattle.mx_directory.proofs.directories.keepers.Given as goal

-- no more keepers than files
abbrev pub invariant-loop-paths : goal.invariant-loop-paths
invariant-loop-paths g l = length l.keepers.items ≤ l.paths.count

abbrev pub decreases-loop-paths : goal.decreases-loop-paths
decreases-loop-paths g l = l.paths.count - length l.keepers.items
