-- What a body is JSON for, and the texts of a value.
use Rattle.std.proofs.Common.{◌≡◌, ℕ, ◌<◌, ◌≤◌, Bool, true, false, if◌then◌else◌, List, length, Option, Some, None, refl, sym, ap, ◌∙◌, IsUtf8, IfSome, Vec, Global, subst}
use Rattle.std.proofs.lemmas.Bool.{and_parts, lt-leb}
use Rattle.std.proofs.lemmas.Str.{is_utf8-from_IsUtf8, IsUtf8-from_is_utf8}
use Rattle.std.specs.Str.{is_utf8}
use Rattle.serde_json.specs.Data.{Data, depth}
use Rattle.serde_json.specs.Read.{read, max_depth}
use Rattle.serde_json.proofs.Nesting.{depth-read}
use Rattle.mx_canon.specs.Canonical.{is_canonical, canonical_text}
use Rattle.mx_body.specs.Bodies.{bytes_of, json_of, has_text_within, text_within}
use Rattle.mx_body.specs.Pieces.{IsPieceOf, cut, within}
use Rattle.mx_body.specs.Readable.{IsReadable}
use Rattle.mx_body.proofs.BackLemmas.{canonical-compact, canonical-back}

pub has_json : (bs : List ℕ) (o : Option Data) → IsUtf8 bs → read bs ≡ o → json_of bs ≡ o
has_json bs o text e = ap (λ b. if b then read bs else None) (is_utf8-from_IsUtf8 bs text) ∙ e

pub has_no_json : (bs : List ℕ) → (IsUtf8 bs → ⊥) → json_of bs ≡ None
has_no_json bs none = by (is_utf8 bs) refl
  where
    by : (b : Bool) → is_utf8 bs ≡ b → (if b then read bs else None) ≡ None
    by true is = absurd (none (IsUtf8-from_is_utf8 bs is))
    by false is = refl

no_text : (n : ℕ) (d : Data) (b : Bool) → IsReadable d → is_canonical d ≡ b → IsPieceOf n d None → text_within n d ≡ None
no_text n d true r is h =
    let long : n < length (canonical_text d) = rw (canonical-compact d r) (h is) in
    rw (is, lt-leb (length (canonical_text d)) n long) refl
no_text n d false r is h = rw is refl

some_text : (n : ℕ) (d : Data) (t : List ℕ) → IsReadable d → IsPieceOf n d (Some t) → text_within n d ≡ cut n t
some_text n d t r h =
    let same : canonical_text d ≡ t = canonical-compact d r ∙ sym h.1 in
    rw (h.0, same) refl

-- what was read, cut to its length, is the text of the value
pub piece-within : (n : ℕ) (d : Data) (piece : Option (List ℕ)) → IsReadable d → IsPieceOf n d piece → text_within n d ≡ within n piece
piece-within n d None r h = no_text n d (is_canonical d) r refl h
piece-within n d (Some t) r h = some_text n d t r h

-- a value's text reads as the value
back-within : (n : ℕ) (d : Data) (b : Bool) → IsReadable d → depth d ≤ max_depth → has_text_within n d ≡ b → IfSome (if b then Some (canonical_text d) else None) (λ t. json_of t ≡ Some d)
back-within n d true r shallow is = canonical-back d r (and_parts _ _ is).0 shallow
back-within n d false r shallow is = tt

pub reads_back : (n : ℕ) (d : Data) → IsReadable d → depth d ≤ max_depth → IfSome (text_within n d) (λ t. json_of t ≡ Some d)
reads_back n d r shallow = back-within n d (has_text_within n d) r shallow refl

pub shallow-read : (text : List ℕ) (d : Data) → read text ≡ Some d → depth d ≤ max_depth
shallow-read text d e = depth-read text d e

pub of_bytes : (r : Option (Vec ℕ Global)) (o : Option (List ℕ)) (x : Option Data) (d : Data) → bytes_of r ≡ o → x ≡ Some d → IfSome o (λ t. json_of t ≡ Some d) → IfSome r (λ bytes. json_of bytes.items ≡ x)
of_bytes None o x d e is h = tt
of_bytes (Some b) o x d e is h = let read : json_of b.items ≡ Some d = subst (λ p. IfSome p (λ t. json_of t ≡ Some d)) (sym e) h in read ∙ sym is
