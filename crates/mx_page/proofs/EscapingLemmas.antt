-- Escaped texts.
use Rattle.std.proofs.Common.{◌≡◌, ◌==◌, ◌||◌, ℕ, Bool, true, false, List, [], ◌∷◌, codes, cond, refl, ap, ap₂, ◌∙◌}
use Rattle.std.proofs.lemmas.List.Folds.{list_any-append}
use Rattle.std.specs.List.{list_any}
use Rattle.std.specs.Str.{chars}
use Rattle.mx_page.specs.Escaping.{escaped, escaped_byte}

byte-has_none : (b : ℕ) → list_any (λ x. x == 60) (escaped_byte b) ≡ false
unfolding chars
byte-has_none b = by (b == 60) refl
  where
    by : (is : Bool) → (b == 60) ≡ is → list_any (λ x. x == 60) (cond is (codes "\\u003c") (b ∷ [])) ≡ false
    by true e = refl
    by false e = ap (λ t. t || false) e

pub has-none : (text : List ℕ) → list_any (λ x. x == 60) (escaped text) ≡ false
has-none [] = refl
has-none (b ∷ text) = list_any-append (λ x. x == 60) (escaped_byte b) (escaped text) ∙ ap₂ (λ x y. x || y) (byte-has_none b) (has-none text)
