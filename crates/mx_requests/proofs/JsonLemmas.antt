-- Bytes that are JSON, or not.
use Rattle.std.proofs.Common.{◌≡◌, ℕ, Bool, true, false, if◌then◌else◌, List, refl, ap, ◌∙◌, IsUtf8}
use Rattle.std.specs.Prelude.{Some, None}
use Rattle.std.specs.Str.{is_utf8}
use Rattle.std.proofs.lemmas.Str.{IsUtf8-from_is_utf8, is_utf8-from_IsUtf8}
use Rattle.serde_json.specs.Data.{Data}
use Rattle.serde_json.specs.Read.{read}
use Rattle.mx_requests.specs.Requests.{json_of}

pub has_json : (bs : List ℕ) (d : Data) → IsUtf8 bs → read bs ≡ Some d → json_of bs ≡ Some d
has_json bs d text e = ap (λ b. if b then read bs else None) (is_utf8-from_IsUtf8 bs text) ∙ e

pub has_no_json : (bs : List ℕ) → (IsUtf8 bs → read bs ≡ None) → json_of bs ≡ None
has_no_json bs none = by (is_utf8 bs) refl
  where
    by : (b : Bool) → is_utf8 bs ≡ b → (if b then read bs else None) ≡ None
    by true is = none (IsUtf8-from_is_utf8 bs is)
    by false is = refl
