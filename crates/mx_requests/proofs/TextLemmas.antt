-- Bytes that are text, or not.
use Rattle.std.proofs.Common.{◌≡◌, ℕ, List, if◌then◌else◌, ap, IsUtf8}
use Rattle.std.specs.Prelude.{Some, None}
use Rattle.std.proofs.lemmas.Str.{is_utf8-from_IsUtf8}
use Rattle.mx_requests.specs.Calls.{text_of}
use Rattle.mx_requests.proofs.SegmentLemmas.{not_utf8}

pub is_text : (bs : List ℕ) → IsUtf8 bs → text_of bs ≡ Some bs
is_text bs text = ap (λ b. if b then Some bs else None) (is_utf8-from_IsUtf8 bs text)

pub is_no_text : (bs : List ℕ) → (IsUtf8 bs → ⊥) → text_of bs ≡ None
is_no_text bs never = ap (λ b. if b then Some bs else None) (not_utf8 bs never)
