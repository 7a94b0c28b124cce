-- The number that a number's text stands for. Only the crate's private clauses cite it.
use Rattle.serde_json.specs.Data.{Num, unsigned, negative, float}
use Rattle.mx_body.specs.declared.numbers.Numeric.{Numeric}
use Rattle.mx_body.specs.declared.numbers.Numeric.TheVariants.{Natural, BelowZero, Float}

abbrev pub num_of : Numeric → Num
num_of (Natural n) = unsigned n
num_of (BelowZero z) = negative z
num_of (Float x) = float x
