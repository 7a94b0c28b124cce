-- The first byte of a text and its first colon.
use Rattle.std.proofs.Common.{◌≡◌, ℕ, ◌<◌, ◌==◌, List, [], ◌∷◌, length, slice_index, Bool, true, false, arith, refl, Some}
use Rattle.std.specs.List.{list_any, position_or_len}
use Rattle.std.proofs.lemmas.Grind.{common_steps}
use Rattle.mx_ident.specs.Identifier.{begins_with, is_colon, is_empty, server_of, common_error, length_error}
use Rattle.mx_ident.specs.declared.refusals.NotAnId.TheVariants.{NoColon, EmptyServer}

pub list_any-none : (p : ℕ → Bool) (s : List ℕ) → position_or_len p s ≡ length s → list_any p s ≡ false
list_any-none p [] h = refl
list_any-none p (c ∷ cs) h = grind (arith, common_steps, list_any-none p cs)

pub list_any-some : (p : ℕ → Bool) (s : List ℕ) → position_or_len p s < length s → list_any p s ≡ true
list_any-some p [] h = absurd (omega arith)
list_any-some p (c ∷ cs) h = grind (arith, common_steps, list_any-some p cs)

pub begins_with-first : (c : ℕ) (s : List ℕ) (b : Bool) → 0 < c → b ≡ (slice_index s 0 == c) → begins_with c s ≡ b
begins_with-first c [] b h e = grind (arith, common_steps)
begins_with-first c (x ∷ xs) b h e = grind (arith, common_steps)

pub common_error-no_colon : (sigil : ℕ) (s : List ℕ) → begins_with sigil s ≡ true → position_or_len is_colon s ≡ length s
    → common_error sigil s ≡ Some NoColon
common_error-no_colon sigil s h k = simp (h, list_any-none is_colon s k)

pub common_error-empty : (sigil : ℕ) (s : List ℕ) → begins_with sigil s ≡ true → position_or_len is_colon s < length s
    → is_empty (server_of s) ≡ true → common_error sigil s ≡ Some EmptyServer
common_error-empty sigil s h k e = simp (h, list_any-some is_colon s k, e)

pub common_error-long : (sigil : ℕ) (s : List ℕ) → begins_with sigil s ≡ true → position_or_len is_colon s < length s
    → is_empty (server_of s) ≡ false → common_error sigil s ≡ length_error s
common_error-long sigil s h k e = simp (h, list_any-some is_colon s k, e)
