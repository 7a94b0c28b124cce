-- Elements that change places, and change back.
use Rattle.std.proofs.Common.{◌≡◌, ◌<◌, ◌≤◌, ◌+◌, ℕ, zero, suc, length, get_or, set, map, drop, List, [], ◌∷◌, ◌++◌, refl, sym, ◌∙◌, ap, subst, arith, ext_get_or}
use Rattle.std.specs.Prelude.{All}
use Rattle.std.specs.List.{swap}
use Rattle.std.proofs.lemmas.List.{map-set, get_or-map, drop_more}
use Rattle.std.proofs.lemmas.List.Edits.{length-swap, swapped_from_swap as swap_places}
use native.Mathlib.Decide.{ℕ_discrete}
use mathlib.Core.Logic.{dite}
use Rattle.mx_engine.specs.Jobs.{moved, unmoved, AreMoves}

module _ {A : Type 0} where
  -- ---- two elements that change places

  pub swap_twice : (xs : List A) (i j : ℕ) → i < length xs → j < length xs → swap (swap xs i j) i j ≡ xs
  swap_twice [] i j p q = absurd (omega (arith, p))
  swap_twice (x ∷ xs) i j p q =
      let ys : List A = x ∷ xs in
      let w = swap ys i j in
      let long : length w ≡ length ys = length-swap ys i j in
      let p' : i < length w = subst (λ n. i < n) (sym long) p in
      let q' : j < length w = subst (λ n. j < n) (sym long) q in
      let s = swap_places ys w i j x p q refl in
      let t = swap_places w (swap w i j) i j x p' q' refl in
      ext_get_or x (swap w i j) ys (length-swap w i j ∙ long) (λ m l. dite (ℕ_discrete m i)
      (λ e. ap (λ k. get_or (swap w i j) k x) e ∙ t.0 ∙ s.1 ∙ ap (λ k. get_or ys k x) (sym e))
      (λ e. dite (ℕ_discrete m j)
      (λ f. ap (λ k. get_or (swap w i j) k x) f ∙ t.1 ∙ s.0 ∙ ap (λ k. get_or ys k x) (sym f))
      (λ f. t.2 m e f ∙ s.2 m e f)))

  pub All-swap : (P : A → Type 0) (xs : List A) (i j : ℕ) → i < length xs → j < length xs → All P xs → All P (swap xs i j)
  All-swap P xs i j p q all = λ m d l.
      let s = swap_places xs (swap xs i j) i j d p q refl in
      let k : m < length xs = subst (λ n. m < n) (length-swap xs i j) l in
      dite (ℕ_discrete m i)
      (λ e. subst P (sym (ap (λ n. get_or (swap xs i j) n d) e ∙ s.0)) (all j d q))
      (λ e. dite (ℕ_discrete m j)
      (λ f. subst P (sym (ap (λ n. get_or (swap xs i j) n d) f ∙ s.1)) (all i d p))
      (λ f. subst P (sym (s.2 m e f)) (all m d k)))

  -- ---- several moves

  pub length-moved : (k : ℕ) (ns : List ℕ) (xs : List A) → length (moved k ns xs) ≡ length xs
  length-moved k [] xs = refl
  length-moved k (n ∷ ns) xs = length-moved (k + 1) ns (swap xs k n) ∙ length-swap xs k n

  pub length-unmoved : (k : ℕ) (ns : List ℕ) (xs : List A) → length (unmoved k ns xs) ≡ length xs
  length-unmoved k [] xs = refl
  length-unmoved k (n ∷ ns) xs = length-swap (unmoved (k + 1) ns xs) k n ∙ length-unmoved (k + 1) ns xs

  pub unmoved_moved : (k : ℕ) (ns : List ℕ) (xs : List A) → AreMoves (length xs) k ns → unmoved k ns (moved k ns xs) ≡ xs
  unmoved_moved k [] xs are = refl
  unmoved_moved k (n ∷ ns) xs are =
      ap (λ l. swap l k n) (unmoved_moved (k + 1) ns (swap xs k n)
      (subst (λ c. AreMoves c (k + 1) ns) (sym (length-swap xs k n)) are.2)) ∙ swap_twice xs k n are.0 are.1

  pub All-moved : (P : A → Type 0) (k : ℕ) (ns : List ℕ) (xs : List A) → AreMoves (length xs) k ns → All P xs
      → All P (moved k ns xs)
  All-moved P k [] xs are all = all
  All-moved P k (n ∷ ns) xs are all =
      All-moved P (k + 1) ns (swap xs k n) (subst (λ c. AreMoves c (k + 1) ns) (sym (length-swap xs k n)) are.2)
      (All-swap P xs k n are.0 are.1 all)

  pub All-unmoved : (P : A → Type 0) (k : ℕ) (ns : List ℕ) (xs : List A) → AreMoves (length xs) k ns → All P xs
      → All P (unmoved k ns xs)
  All-unmoved P k [] xs are all = all
  All-unmoved P k (n ∷ ns) xs are all =
      let long = length-unmoved (k + 1) ns xs in
      All-swap P (unmoved (k + 1) ns xs) k n (subst (λ c. k < c) (sym long) are.0) (subst (λ c. n < c) (sym long) are.1)
      (All-unmoved P (k + 1) ns xs are.2 all)

  pub moved-snoc : (k : ℕ) (ns : List ℕ) (n : ℕ) (xs : List A)
      → moved k (ns ++ n ∷ []) xs ≡ swap (moved k ns xs) (k + length ns) n
  moved-snoc k [] n xs = ap (λ m. swap xs m n) (let e : k ≡ k + 0 = omega arith in e)
  moved-snoc k (m ∷ ns) n xs = moved-snoc (k + 1) ns n (swap xs k m)
      ∙ ap (λ j. swap (moved (k + 1) ns (swap xs k m)) j n)
      (let e : k + 1 + length ns ≡ k + suc (length ns) = omega arith in e)

pub moves-snoc : (count k : ℕ) (ns : List ℕ) (n : ℕ) → AreMoves count k ns → k + length ns < count → n < count
    → AreMoves count k (ns ++ n ∷ [])
moves-snoc count k [] n are l within = (omega (arith, l), within, omega (arith, l))
moves-snoc count k (m ∷ ns) n are l within = (are.0, are.1, moves-snoc count (k + 1) ns n are.2 (omega (arith, l)) within)

pub moves_few : (count k : ℕ) (ns : List ℕ) → AreMoves count k ns → k + length ns ≤ count
moves_few count k [] are = omega (arith, are)
moves_few count k (n ∷ ns) are = let h = moves_few count (k + 1) ns are.2 in omega (arith, h)

module _ {A B : Type 0} (f : A → B) where
  map-swap : (xs : List A) (i j : ℕ) → i < length xs → j < length xs → map f (swap xs i j) ≡ swap (map f xs) i j
  map-swap [] i j p q = refl
  map-swap (x ∷ xs) i j p q =
      let ys : List A = x ∷ xs in
      map-set f (set ys i (get_or ys j x)) j (get_or ys i x)
      ∙ ap (λ l. set l j (f (get_or ys i x))) (map-set f ys i (get_or ys j x))
      ∙ (λ k. set (set (map f ys) i (sym (get_or-map f ys j x (f x) q) k)) j (sym (get_or-map f ys i x (f x) p) k))

  pub map-moved : (k : ℕ) (ns : List ℕ) (xs : List A) → AreMoves (length xs) k ns
      → map f (moved k ns xs) ≡ moved k ns (map f xs)
  map-moved k [] xs are = refl
  map-moved k (n ∷ ns) xs are =
      map-moved (k + 1) ns (swap xs k n) (subst (λ c. AreMoves c (k + 1) ns) (sym (length-swap xs k n)) are.2)
      ∙ ap (moved (k + 1) ns) (map-swap xs k n are.0 are.1)

  pub map-unmoved : (k : ℕ) (ns : List ℕ) (xs : List A) → AreMoves (length xs) k ns
      → map f (unmoved k ns xs) ≡ unmoved k ns (map f xs)
  map-unmoved k [] xs are = refl
  map-unmoved k (n ∷ ns) xs are =
      let long = length-unmoved (k + 1) ns xs in
      map-swap (unmoved (k + 1) ns xs) k n (subst (λ c. k < c) (sym long) are.0) (subst (λ c. n < c) (sym long) are.1)
      ∙ ap (λ l. swap l k n) (map-unmoved (k + 1) ns xs are.2)

-- each move is within so many elements
pub moves_at : (count k : ℕ) (ns : List ℕ) (i d : ℕ) → AreMoves count k ns → i < length ns
    → (k + i < count) × (get_or ns i d < count)
moves_at count k [] i d are l = absurd (omega (arith, l))
moves_at count k (n ∷ ns) zero d are l = (omega (arith, are.0), are.1)
moves_at count k (n ∷ ns) (suc i) d are l = let h =
    moves_at count (k + 1) ns i d are.2 (omega (arith, l)) in (omega (arith, h.0), h.1)

-- one move back
pub unmoved-more : {A : Type 0} (ns : List ℕ) (k n : ℕ) (first between : List A) → k < length ns → n ≡ get_or ns k n
    → between ≡ unmoved (k + 1) (drop (k + 1) ns) first → swap between k n ≡ unmoved k (drop k ns) first
unmoved-more ns k n first between l is so_far =
    ap (λ xs. swap xs k n) so_far
    ∙ ap (λ ms. unmoved k ms first) (sym (drop_more ns k n l ∙ ap (λ m. m ∷ drop (k + 1) ns) (sym is)))

pub moved-last : {A : Type 0} (ns : List ℕ) (n : ℕ) (xs : List A)
    → moved 0 (ns ++ n ∷ []) xs ≡ swap (moved 0 ns xs) (length ns) n
moved-last ns n xs = moved-snoc 0 ns n xs
    ∙ ap (λ m. swap (moved 0 ns xs) m n) (let e : 0 + length ns ≡ length ns = omega arith in e)
