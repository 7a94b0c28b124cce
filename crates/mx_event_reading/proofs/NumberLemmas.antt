-- Integers that canonical JSON has.
use Rattle.std.proofs.Common.{◌≡◌, ℤ, pos, negsuc, true, refl, arith, SFits, w64}
use Rattle.std.specs.Fmt.{signed_decimal}
use Rattle.serde_json.specs.Find.{of_integer}
use Rattle.serde_json.specs.Written.{number_text}
use Rattle.mx_canon.specs.Canonical.{is_exact}

-- 64 bits hold them
pub SFits-exact : (z : ℤ) → is_exact (of_integer z) ≡ true → SFits w64 z
SFits-exact (pos n) e = grind arith
SFits-exact (negsuc n) e = grind arith

pub number_text-integer : (z : ℤ) → signed_decimal z ≡ number_text (of_integer z)
number_text-integer (pos n) = refl
number_text-integer (negsuc n) = refl
