-- Clones of lists of ids.
use Rattle.std.proofs.Common.{◌≡◌, ℕ, List, [], ◌∷◌, refl, ap₂}
use Rattle.std.specs.List.{AllZip}

pub texts-copied : (xs ys : List (List ℕ)) → AllZip (λ x y. y ≡ x) xs ys → ys ≡ xs
texts-copied [] [] h = refl
texts-copied [] (y ∷ ys) h = absurd h
texts-copied (x ∷ xs) [] h = absurd h
texts-copied (x ∷ xs) (y ∷ ys) h = ap₂ (λ z zs. z ∷ zs) h.0 (texts-copied xs ys h.1)
