use Rattle.std.proofs.Common.{◌≡◌, length}
use Rattle.mx_server_tests.proofs.world_tests.keepers.Given as goal

abbrev pub invariant-loop-number : goal.invariant-loop-number
invariant-loop-number g l = length l.keepers.items ≡ l.number
