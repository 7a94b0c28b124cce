use Rattle.std.proofs.Common.{◌≡◌}
use Rattle.mx_directory.specs.LogDamage.{sum_before, fails_within, begins_behind}
use Rattle.mx_directory.proofs.log_damage.begins_behind_failed.Given as goal

abbrev pub invariant-loop-number : goal.invariant-loop-number
invariant-loop-number l = (l.before ≡ sum_before l.log l.number) × (l.fails ≡ fails_within l.log l.number) × (l.begins ≡ begins_behind l.log l.number)
