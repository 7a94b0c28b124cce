-- Texts that are written one after another.
use Rattle.std.proofs.Common.{◌≡◌, ℕ, zero, suc, ◌+◌, ◌<◌, ◌≤◌, List, [], ◌∷◌, ◌++◌, get_or, take, drop, length, refl, sym, ap, ◌∙◌, append_assoc, append-nil, arith}
use Rattle.std.proofs.lemmas.Grind.{flat_map-append}
use Rattle.std.proofs.lemmas.List.{drop_more}
use Rattle.std.specs.List.{flat_map, range_with_len}

pub two : (o a b x y : List ℕ) → x ≡ o ++ a → y ≡ x ++ b → y ≡ o ++ (a ++ b)
two o a b x y p q = q ∙ ap (λ t. t ++ b) p ∙ append_assoc o a b

pub three : (o a b c x y z : List ℕ) → x ≡ o ++ a → y ≡ x ++ b → z ≡ y ++ c → z ≡ o ++ (a ++ (b ++ c))
three o a b c x y z p q r = two o a (b ++ c) x z p (two x b c y z q r)

pub five : (o a b c d e v w x y z : List ℕ) → v ≡ o ++ a → w ≡ v ++ b → x ≡ w ++ c → y ≡ x ++ d → z ≡ y ++ e → z ≡ o ++ (a ++ (b ++ (c ++ (d ++ e))))
five o a b c d e v w x y z p q r s t = three o a b (c ++ (d ++ e)) v w z p q (three w c d e x y z r s t)

pub seven : (o a b c d e f g t u v w x y z : List ℕ) → t ≡ o ++ a → u ≡ t ++ b → v ≡ u ++ c → w ≡ v ++ d → x ≡ w ++ e → y ≡ x ++ f → z ≡ y ++ g
    → z ≡ o ++ (a ++ (b ++ (c ++ (d ++ (e ++ (f ++ g))))))
seven o a b c d e f g t u v w x y z p q r s k l m = three o a b (c ++ (d ++ (e ++ (f ++ g)))) t u z p q (five u c d e f g v w x y z r s k l m)

range-more : (a n : ℕ) → range_with_len a (suc n) ≡ range_with_len a n ++ (a + n) ∷ []
range-more a zero = ap (λ i. i ∷ []) (omega arith)
range-more a (suc n) = ap (λ xs. a ∷ xs) (range-more (a + 1) n ∙ ap (λ i. range_with_len (a + 1) n ++ i ∷ []) (omega arith))

-- one text more of those at the places from 0
pub places-more : (f : ℕ → List ℕ) (i : ℕ) → flat_map f (range_with_len 0 (i + 1)) ≡ flat_map f (range_with_len 0 i) ++ f i
places-more f i =
    let one : i + 1 ≡ suc i = omega arith in
    let none : 0 + i ≡ i = omega arith in
    ap (λ n. flat_map f (range_with_len 0 n)) one ∙ ap (flat_map f) (range-more 0 i) ∙ flat_map-append f (range_with_len 0 i) ((0 + i) ∷ [])
    ∙ ap (λ xs. flat_map f (range_with_len 0 i) ++ xs) (append-nil (f (0 + i)) ∙ ap f none)

-- one text more of those of a list
pub texts-more : {A : Type 0} (f : A → List ℕ) (xs : List A) (d : A) (i : ℕ) (out : List ℕ) → i < length xs → (text : List ℕ) → text ≡ f (get_or xs i d)
    → (out ++ text) ++ flat_map f (drop (i + 1) xs) ≡ out ++ flat_map f (drop i xs)
texts-more f xs d i out l text e =
    append_assoc out text (flat_map f (drop (i + 1) xs)) ∙ ap (λ t. out ++ (t ++ flat_map f (drop (i + 1) xs))) e
    ∙ ap (λ ys. out ++ flat_map f ys) (sym (drop_more xs i d l))
