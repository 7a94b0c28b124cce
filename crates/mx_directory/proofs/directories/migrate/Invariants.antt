use Rattle.std.proofs.Common.{◌-◌, ◌≤◌}
use Rattle.mx_directory.proofs.directories.migrate.Given as goal

abbrev pub invariant-loop-told : goal.invariant-loop-told
invariant-loop-told g l = l.told ≤ l.paths.count

abbrev pub decreases-loop-told : goal.decreases-loop-told
decreases-loop-told g l = l.paths.count - l.told
