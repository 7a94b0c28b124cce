-- A segment that is decoded, or not.
use Rattle.std.proofs.Common.{◌≡◌, ℕ, List, Bool, true, false, ◌&&◌, if◌then◌else◌, Result, Ok, Err, refl, IsUtf8}
use Rattle.std.specs.Str.{is_utf8}
use Rattle.std.proofs.lemmas.Str.{IsUtf8-from_is_utf8}
use Rattle.percent_encoding.specs.Percent.{percent_decode}
use Rattle.mx_requests.specs.declared.faults.Fault.{Fault}
use Rattle.mx_requests.specs.declared.faults.Fault.TheVariants.{Invalid}
use Rattle.mx_requests.specs.declared.faults.InvalidPart.{InvalidPart}
use Rattle.mx_requests.specs.Targets.{decoded}

pub not_utf8 : (bs : List ℕ) → (IsUtf8 bs → ⊥) → is_utf8 bs ≡ false
not_utf8 bs never = by (is_utf8 bs) refl
  where
    by : (b : Bool) → is_utf8 bs ≡ b → is_utf8 bs ≡ false
    by true is = absurd (never (IsUtf8-from_is_utf8 bs is))
    by false is = is

abbrev told : Bool → List ℕ → Fault → Result (List ℕ) Fault
told b text fault = if b then Ok text else Err fault

refused_by : (b k : Bool) (text : List ℕ) (fault : Fault) → k ≡ false → told (b && k) text fault ≡ Err fault
refused_by true k text fault other = rw other refl
refused_by false k text fault other = refl

-- text of another kind
pub refused : (is_kind : List ℕ → Bool) (part : InvalidPart) (segment : List ℕ) → is_kind (percent_decode segment) ≡ false
    → decoded is_kind part segment ≡ Err (Invalid part)
refused is_kind part segment other = refused_by (is_utf8 (percent_decode segment)) (is_kind (percent_decode segment)) _ _ other
