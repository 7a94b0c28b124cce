-- Numbers that fall, and the search for one of them.
use Rattle.std.proofs.Common.{◌≡◌, ℕ, zero, suc, ◌+◌, ◌==◌, ◌≤◌, ◌<◌, ◌⊎◌, true, inl, inr, List, [], ◌∷◌, ◌++◌, length, slice_index, slice_index_or, refl, sym, ap, subst, ◌∙◌, arith, eqb-true}
use Rattle.std.specs.Prelude.{Option, Some, None, IfSome, Result, Ok, Err, position, is_some}
use Rattle.std.specs.declared.cmp.Ordering.TheVariants.{Less, Greater}
use Rattle.std.specs.Ordering.{nat_cmp, is_eq, ordering_index}
use Rattle.std.specs.List.Sorted.{IsBinarySearchResult, IsSearchInRange, IsNonDecreasingBy}
use Rattle.std.specs.Result.{result_ok}
use Rattle.std.proofs.lemmas.Bool.{cases_lt}
use Rattle.std.proofs.lemmas.Bool.Decides.{nat_tests}
use Rattle.std.proofs.lemmas.List.{length-append, get_or_append_left}
use Rattle.std.proofs.lemmas.List.Quantifiers.{position-Some}
use Rattle.std.proofs.Math.Nat.{eq-or-lt_of_le}
use Rattle.std.proofs.Math.Seq.{get_or-append_seam}
use Rattle.mx_graph.proofs.Closure.{is_in-from}
use Rattle.mx_graph.proofs.WalkLemmas.{equal_to, equal_from}
use Rattle.mx_orders.proofs.MainlineLemmas.{any-position}
use Rattle.mx_orders.proofs.Members.{In}
use Rattle.mx_orders.proofs.RankLemmas.{in_at}
use Rattle.mx_orders.specs.Lists.{Falls, IsBelow}

-- ---- a line that falls, made from its first on

module _ (xs ys : List ℕ) (now next : Option ℕ) (p : ℕ) (e : now ≡ Some p) (m : ys ≡ xs ++ p ∷ []) (earlier : IfSome next (λ q. q < p)) (falls : Falls xs) (below : IsBelow now xs) where
  longer : length (xs ++ p ∷ []) ≡ length xs + 1
  longer = length-append xs (p ∷ [])

  kept : (i : ℕ) → i < length xs → slice_index (xs ++ p ∷ []) i ≡ slice_index xs i
  kept i h = get_or_append_left xs (p ∷ []) 0 i h

  last : (i : ℕ) → i ≡ length xs → slice_index (xs ++ p ∷ []) i ≡ p
  last i h = ap (slice_index (xs ++ p ∷ [])) h ∙ get_or-append_seam xs p [] 0

  above : (i : ℕ) → i < length xs → p < slice_index xs i
  above i h = subst (λ o. IfSome o (λ q. q < slice_index xs i)) e (below i h)

  place : (i : ℕ) → i < length (xs ++ p ∷ []) → (i ≡ length xs) ⊎ (i < length xs)
  place i h = let l : i ≤ length xs = omega (arith, h, longer) in eq-or-lt_of_le l

  pub falls-more : Falls ys
  falls-more = subst Falls (sym m) (λ i j l h. by i j l (place j h))
    where
      by : (i j : ℕ) → i < j → (j ≡ length xs) ⊎ (j < length xs) → slice_index (xs ++ p ∷ []) j < slice_index (xs ++ p ∷ []) i
      by i j l (inl k) =
          let n : i < length xs = omega (arith, l, k) in
          let a = kept i n in
          let b = last j k in
          let d = above i n in
          omega (arith, a, b, d)
      by i j l (inr k) =
          let n : i < length xs = omega (arith, l, k) in
          let a = kept i n in
          let b = kept j k in
          let d = falls i j l k in
          omega (arith, a, b, d)

  pub below-more : IsBelow next ys
  below-more = subst (IsBelow next) (sym m) (λ i h. by next earlier i (place i h))
    where
      by : (o : Option ℕ) → IfSome o (λ q. q < p) → (i : ℕ) → (i ≡ length xs) ⊎ (i < length xs) → IfSome o (λ q. q < slice_index (xs ++ p ∷ []) i)
      by None k i h = tt
      by (Some q) k i (inl h) = let b = last i h in omega (arith, k, b)
      by (Some q) k i (inr h) =
          let b = kept i h in
          let d = above i h in
          omega (arith, k, b, d)

-- ---- the search

any_default : (xs : List ℕ) (i d : ℕ) → i < length xs → slice_index_or xs i d ≡ slice_index xs i
any_default [] i d h = absurd (omega (arith, h))
any_default (x ∷ xs) zero d h = refl
any_default (x ∷ xs) (suc i) d h = let l : i < length xs = omega (arith, h) in any_default xs i d l

as_before : (x a b : ℕ) → b ≤ a → ordering_index (nat_cmp x a) ≤ ordering_index (nat_cmp x b)
as_before x a b h = grind (arith, nat_tests)

less_not : (x y : ℕ) → nat_cmp x y ≡ Less → x ≡ y → ⊥
less_not x y e k = absurd (cc (sym (ap is_eq e) ∙ subst (λ z. is_eq (nat_cmp x z) ≡ true) k (equal_from x)))

greater_not : (x y : ℕ) → nat_cmp x y ≡ Greater → x ≡ y → ⊥
greater_not x y e k = absurd (cc (sym (ap is_eq e) ∙ subst (λ z. is_eq (nat_cmp x z) ≡ true) k (equal_from x)))

module _ (xs : List ℕ) (x : ℕ) (falls : Falls xs) where
  ordered : IsNonDecreasingBy (λ y. ordering_index (nat_cmp x y)) xs
  ordered i j d l h = by (eq-or-lt_of_le l)
    where
      by : (i ≡ j) ⊎ (i < j) → ordering_index (nat_cmp x (slice_index_or xs i d)) ≤ ordering_index (nat_cmp x (slice_index_or xs j d))
      by (inl e) = let k = ap (λ n. ordering_index (nat_cmp x (slice_index_or xs n d))) e in omega (arith, k)
      by (inr k) = as_before x _ _ (lower k)
        where
          lower : i < j → slice_index_or xs j d ≤ slice_index_or xs i d
          lower k =
              let f = falls i j k h in
              let n : i < length xs = omega (arith, k, h) in
              let a = any_default xs i d n in
              let b = any_default xs j d h in
              omega (arith, f, a, b)

  one_place : (i k : ℕ) → i < length xs → k < length xs → slice_index xs i ≡ x → slice_index xs k ≡ x → k ≡ i
  one_place i k h l e f = by (cases_lt i k) (cases_lt k i)
    where
      by : (i < k) ⊎ (k ≤ i) → (k < i) ⊎ (i ≤ k) → k ≡ i
      by (inl m) n = let d = falls i k m l in absurd (omega (arith, d, e, f))
      by (inr m) (inl n) = let d = falls k i n h in absurd (omega (arith, d, e, f))
      by (inr m) (inr n) = omega (arith, m, n)

  pub found_in : (r : Result ℕ ℕ) → IsSearchInRange r (length xs) → IsBinarySearchResult (λ y. nat_cmp x y) xs r → result_ok r ≡ position (λ y. y == x) xs
  found_in (Ok i) h s = by (position (λ y. y == x) xs) refl
    where
      here : slice_index xs i ≡ x
      here = sym (equal_to x (slice_index xs i) (ap is_eq (s 0)))

      by : (o : Option ℕ) → position (λ y. y == x) xs ≡ o → Some i ≡ position (λ y. y == x) xs
      by None e = absurd (cc (sym (is_in-from x xs (subst (λ y. In y xs) here (in_at xs i h))) ∙ any-position (λ y. y == x) xs ∙ ap is_some e))
      by (Some k) e = let f = position-Some (λ y. y == x) xs k 0 e in ap Some (sym (one_place i k h f.0 here (eqb-true _ _ f.1))) ∙ sym e
  found_in (Err i) h s = by (position (λ y. y == x) xs) refl
    where
      apart : (k : ℕ) → k < length xs → x ≡ slice_index xs k → ⊥
      apart k l e = side (cases_lt k i)
        where
          side : (k < i) ⊎ (i ≤ k) → ⊥
          side (inl m) = less_not x (slice_index xs k) ((s ordered).0 k 0 (omega arith) m) e
          side (inr m) = greater_not x (slice_index xs k) ((s ordered).1 k 0 m l) e

      by : (o : Option ℕ) → position (λ y. y == x) xs ≡ o → None ≡ position (λ y. y == x) xs
      by None e = sym e
      by (Some k) e = let f = position-Some (λ y. y == x) xs k 0 e in absurd (apart k f.0 (sym (eqb-true _ _ f.1)))
