-- What cells read as.
use Rattle.std.proofs.Common.{◌≡◌, ℕ, ◌^◌, pos, negsuc, ◌==◌, true, false, List, Option, Some, None, IsUtf8, refl, ap, ◌∙◌, inl, inr, ◌<◌, nat_lt, arith, length}
use Rattle.std.proofs.lemmas.Bool.Decides.{nat_tests}
use Rattle.std.specs.Str.{is_utf8}
use Rattle.std.proofs.lemmas.Bool.{cases_Bool, cases_lt}
use Rattle.std.proofs.lemmas.List.{get_or_past}
use Rattle.sqlite_value.specs.Order.{Row, column}
use Rattle.std.proofs.lemmas.Str.{is_utf8-from_IsUtf8, IsUtf8-from_is_utf8}
use Rattle.mx_ident.specs.Identifier.{room_id_error}
use Rattle.mx_ident.specs.declared.refusals.NotAnId.{NotAnId}
use Rattle.sqlite.specs.declared.types.Value.{Value}
use Rattle.sqlite.specs.declared.types.Value.TheVariants.{Null, Int, Real, Text, Blob}
use Rattle.mx_keeper.specs.Cells.{caller_in, text_in, room_of_text}

pub text_read : (v : Value) (t : List ℕ) → IsUtf8 t → v ≡ Text t → text_in v ≡ Some t
text_read v t utf8 is = rw (is, is_utf8-from_IsUtf8 t utf8) refl

pub no_text : (v : Value) → ¬ ((t : List ℕ) × (v ≡ Text t) × IsUtf8 t) → text_in v ≡ None
no_text Null none = refl
no_text (Int n) none = refl
no_text (Real x) none = refl
no_text (Text t) none = elim (cases_Bool (is_utf8 t)) [ inl valid ↦ absurd (none (t, refl, IsUtf8-from_is_utf8 t valid)) | inr other ↦ rw other refl ]
no_text (Blob b) none = refl

pub no_room : (t : List ℕ) (cause : NotAnId) → room_id_error t ≡ Some cause → room_of_text t ≡ None
no_room t cause is = rw is refl

-- past the end of a row nothing is read
pub past_end : {X : Type 0} (reads : Value → Option X) → reads Null ≡ None → (r : Row) (at : ℕ) → (at < length r → reads (column r at) ≡ None) → reads (column r at) ≡ None
past_end reads none r at h = elim (cases_lt at (length r)) [ inl low ↦ h low | inr high ↦ ap reads (get_or_past r at Null high) ∙ none ]

pub same_number : (n : ℕ) → (n == n) ≡ true
same_number n = grind (arith, nat_tests)

pub is_low : (n : ℕ) → n < 2 ^ 32 → nat_lt n (2 ^ 32) ≡ true
is_low n h = grind (arith, nat_tests)

-- a caller that was read
pub caller_read : (v : Value) (n : ℕ) → n < 2 ^ 32 → v ≡ Int (pos n) → caller_in v ≡ Some n
caller_read v n low is = rw (is, is_low n low) refl

pub no_caller : (v : Value) → ¬ ((n : ℕ) × (v ≡ Int (pos n)) × (n < 2 ^ 32)) → caller_in v ≡ None
no_caller Null none = refl
no_caller (Int (pos n)) none = elim (cases_lt n (2 ^ 32)) [ inl low ↦ absurd (none (n, refl, low)) | inr high ↦ rw (let h : nat_lt n (2 ^ 32) ≡ false = grind (arith, nat_tests) in h) refl ]
no_caller (Int (negsuc n)) none = refl
no_caller (Real x) none = refl
no_caller (Text t) none = refl
no_caller (Blob b) none = refl
