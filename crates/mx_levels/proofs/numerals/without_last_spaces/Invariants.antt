use Rattle.std.proofs.Common.{◌≡◌, length}
use Rattle.mx_levels.specs.Level as definition
use Rattle.mx_levels.proofs.numerals.without_last_spaces.Given as goal

abbrev pub invariant-loop-rest : goal.invariant-loop-rest
invariant-loop-rest l = definition.skip_last_spaces l.rest ≡ definition.skip_last_spaces l.text

abbrev pub decreases-loop-rest : goal.decreases-loop-rest
decreases-loop-rest l = length l.rest
