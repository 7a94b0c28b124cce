use Rattle.std.proofs.Common.{◌≡◌, [], length}
use Rattle.std.specs.Prelude.{All}
use Rattle.mx_log.proofs.memory_worlds.keepers.Given as goal

-- as many keepers as were counted, with no rows
abbrev pub invariant-loop-keeper : goal.invariant-loop-keeper
invariant-loop-keeper g l = (length l.keepers.items ≡ l._keeper) × All (λ keeper. keeper ≡ []) l.keepers.items
