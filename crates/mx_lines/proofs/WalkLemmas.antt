-- Texts that a loop writes, one after another.
use Rattle.std.proofs.Common.{◌≡◌, ◌+◌, ◌++◌, ◌<◌, ◌≤◌, ℕ, Bool, true, false, not, refl, List, ◌∷◌, sym, ap, ◌∙◌, drop, get_or, length, append_assoc, append-nil}
use Rattle.std.proofs.lemmas.List.{drop_more, drop_all}
use Rattle.std.specs.List.{flat_map}

-- what a list has from a place on
pub left-at : {A : Type 0} (xs : List A) (i : ℕ) (d x : A) → i < length xs → x ≡ get_or xs i d → drop i xs ≡ x ∷ drop (i + 1) xs
left-at xs i d x below is = drop_more xs i d below ∙ ap (λ y. y ∷ drop (i + 1) xs) (sym is)

-- one text more
pub walked-on : {A : Type 0} (f : A → List ℕ) (out all : List ℕ) (xs : List A) (i : ℕ) (d x : A) → i < length xs → x ≡ get_or xs i d
    → out ++ flat_map f (drop i xs) ≡ all → (out ++ f x) ++ flat_map f (drop (i + 1) xs) ≡ all
walked-on f out all xs i d x below at is =
    append_assoc out (f x) (flat_map f (drop (i + 1) xs)) ∙ ap (λ ys. out ++ flat_map f ys) (sym (left-at xs i d x below at)) ∙ is

-- none is left
pub walked-all : {A : Type 0} (f : A → List ℕ) (out all : List ℕ) (xs : List A) (i : ℕ) → length xs ≤ i → out ++ flat_map f (drop i xs) ≡ all → out ≡ all
walked-all f out all xs i past is = sym (append-nil out) ∙ ap (λ ys. out ++ flat_map f ys) (sym (drop_all i xs past)) ∙ is

pub twice : (b : Bool) → not (not b) ≡ b
twice true = refl
twice false = refl

-- ---- pieces that were written one after another

pub five : (t a b c d e : List ℕ) → ((((t ++ a) ++ b) ++ c) ++ d) ++ e ≡ t ++ (a ++ (b ++ (c ++ (d ++ e))))
five t a b c d e = simp (append_assoc)

pub thirteen : (t a b c d e f g h i j k l m : List ℕ) → ((((((((((((t ++ a) ++ b) ++ c) ++ d) ++ e) ++ f) ++ g) ++ h) ++ i) ++ j) ++ k) ++ l) ++ m ≡ t ++ (a ++ (b ++ (c ++ (d ++ (e ++ (f ++ (g ++ (h ++ (i ++ (j ++ (k ++ (l ++ m))))))))))))
thirteen t a b c d e f g h i j k l m = simp (append_assoc)
