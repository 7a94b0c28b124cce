-- Pieces that a loop or a function writes one after another.
use Rattle.std.proofs.Common.{◌≡◌, ◌+◌, ◌++◌, ◌<◌, ◌≤◌, ℕ, List, [], ◌∷◌, sym, ap, ◌∙◌, drop, get_or, length, append_assoc, append-nil}
use Rattle.std.proofs.lemmas.List.{drop_more, drop_all}
use Rattle.std.specs.List.{flat_map}

-- one piece more
pub list-on : {A B : Type 0} (f : A → List B) (out all : List B) (xs : List A) (i : ℕ) (d x : A) → i < length xs → x ≡ get_or xs i d
    → out ++ flat_map f (drop i xs) ≡ all → (out ++ f x) ++ flat_map f (drop (i + 1) xs) ≡ all
list-on f out all xs i d x below at is =
    append_assoc out (f x) (flat_map f (drop (i + 1) xs))
    ∙ ap (λ ys. out ++ flat_map f ys) (sym (drop_more xs i d below ∙ ap (λ y. y ∷ drop (i + 1) xs) (sym at))) ∙ is

-- none is left
pub list-all : {A B : Type 0} (f : A → List B) (out all : List B) (xs : List A) (i : ℕ) → length xs ≤ i → out ++ flat_map f (drop i xs) ≡ all → out ≡ all
list-all f out all xs i past is = sym (append-nil out) ∙ ap (λ ys. out ++ flat_map f ys) (sym (drop_all i xs past)) ∙ is

-- an array of three
pub array-of-three : (t a b c : List ℕ) → ((((((t ++ 91 ∷ []) ++ a) ++ 44 ∷ []) ++ b) ++ 44 ∷ []) ++ c) ++ 93 ∷ [] ≡ t ++ 91 ∷ ((a ++ 44 ∷ (b ++ 44 ∷ c)) ++ 93 ∷ [])
array-of-three t a b c = simp (append_assoc)

pub ten : (t a b c d e f g h i j : List ℕ) → (((((((((t ++ a) ++ b) ++ c) ++ d) ++ e) ++ f) ++ g) ++ h) ++ i) ++ j ≡ t ++ (a ++ (b ++ (c ++ (d ++ (e ++ (f ++ (g ++ (h ++ (i ++ j)))))))))
ten t a b c d e f g h i j = simp (append_assoc)

pub three : (t a b c : List ℕ) → ((t ++ a) ++ b) ++ c ≡ t ++ (a ++ (b ++ c))
three t a b c = simp (append_assoc)
