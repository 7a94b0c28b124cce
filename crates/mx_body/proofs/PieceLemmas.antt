-- The texts of parts, and what fits.
use Rattle.std.proofs.Common.{◌≡◌, ℕ, ◌+◌, ◌<◌, ◌≤◌, nat_le, Bool, true, false, List, [], ◌∷◌, length, Option, None, ap, ◌∙◌, arith, length-append}
use Rattle.json.specs.Print.{escape, escape_byte}
use Rattle.serde_json.specs.Data.{Data, string}
use Rattle.serde_json.specs.Written.{compact_text}
use Rattle.mx_canon.specs.Canonical.{is_canonical}
use Rattle.json.specs.Token.{Token}
use Rattle.mx_body.specs.Pieces.{IsPieceOf, ReadsPiece, cut}

escaped-some : (b : ℕ) → 1 ≤ length (escape_byte b)
unfolding escape_byte
escaped-some b = grind arith

pub length-escape : (s : List ℕ) → length s ≤ length (escape s)
length-escape [] = omega arith
length-escape (b ∷ s) = omega (arith, escaped-some b, length-escape s, length-append (escape_byte b) (escape s))

-- a string that is longer than the room, with its quotation marks, has a text that is
pub string-long : (room : ℕ) (s : List ℕ) → room < length s + 2 → IsPieceOf room (string s) None
string-long room s h = λ _. omega (arith, length-escape s, length-append (escape s) (34 ∷ []))

pub too_long : (room n : ℕ) → nat_le n room ≡ false → room < n
too_long room n is = grind arith

-- a canonical text, cut
pub IsPieceOf-cut : (room : ℕ) (d : Data) (text : List ℕ) (b : Bool) → nat_le (length text) room ≡ b → is_canonical d ≡ true → text ≡ compact_text d → IsPieceOf room d (cut room text)
IsPieceOf-cut room d text true is canonical same = rw is (canonical, same)
IsPieceOf-cut room d text false is canonical same = rw is (λ _. omega (arith, too_long room (length text) is, ap length same))

-- the same reading, in other words
pub reads-same : (room : ℕ) (x y : Option (Data × List Token)) (r : List Token) (piece : Option (List ℕ)) → y ≡ x → ReadsPiece room x r piece → ReadsPiece room y r piece
reads-same room x y r piece same h = record { value = h.value; read = same ∙ h.read; readable = h.readable; text = h.text }
