use Rattle.std.proofs.Common.{◌≡◌, ◌+◌, min, take}
use Rattle.mx_canon.specs.Canonical.{largest}
use Rattle.mx_ident.specs.Identifier.{decimal_value}
use Rattle.mx_levels.proofs.numerals.capped_value.Given as goal

abbrev pub invariant-loop-digit : goal.invariant-loop-digit
invariant-loop-digit l = l.value ≡ min (decimal_value (take l.digit-index l.digits)) (largest + 1)
