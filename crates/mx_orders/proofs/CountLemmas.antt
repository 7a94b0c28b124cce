-- Lists that have each element equally often, and the sorted one of them.
use Rattle.std.proofs.Common.{◌≡◌, ℕ, suc, ◌+◌, ◌==◌, ◌<◌, Bool, true, false, cond, inl, inr, List, [], ◌∷◌, length, slice_index_or, refl, sym, ap, subst, ◌∙◌, arith, eq-eqb, eqb-true}
use Rattle.std.specs.declared.cmp.Ordering.{Ordering}
use Rattle.std.specs.declared.cmp.Ordering.TheVariants.{Less, Equal, Greater}
use Rattle.std.specs.Ordering.{is_gt, is_lt, ordering_reverse}
use Rattle.std.specs.Cmp.{IsTotalOrder, tied_itself}
use Rattle.std.specs.FinMap.Entries.{by_order}
use Rattle.std.specs.List.{sum_by, All}
use Rattle.std.specs.List.Sorted.{IsPermutation, IsSortedBy}
use Rattle.std.proofs.lemmas.List.Sums.{sum_by-cons}
use Rattle.std.proofs.lemmas.List.Sorted.{sum_by-IsPermutation, sorted_far, ranks_by}
use Rattle.mx_orders.specs.Mainline.{put_in_order, sorted}
use Rattle.mx_orders.proofs.Members.{In}
use Rattle.mx_orders.proofs.LeastOrder.{TellsApart}
use Rattle.mx_orders.proofs.SortedLaws.{Below, Rising, sorted-rising}

abbrev pub Alike : List ℕ → List ℕ → Type 0
Alike xs ys = (f : ℕ → ℕ) → sum_by f xs ≡ sum_by f ys

abbrev one_at : ℕ → ℕ → ℕ
one_at x y = cond (y == x) 1 0

counted : (x : ℕ) (xs : List ℕ) → In x xs → 0 < sum_by (one_at x) xs
counted x [] h = absurd h
counted x (y ∷ ys) (inl e) =
    let s = sum_by-cons (one_at x) y ys in
    let k : one_at x y ≡ 1 = ap (λ b. cond b 1 0) (eq-eqb y x (sym e)) in
    omega arith
counted x (y ∷ ys) (inr h) =
    let s = sum_by-cons (one_at x) y ys in
    let k = counted x ys h in
    omega arith

member : (x : ℕ) (xs : List ℕ) → 0 < sum_by (one_at x) xs → In x xs
member x [] h = absurd (omega (arith, h))
member x (y ∷ ys) h = by (member x ys) (y == x) refl
  where
    by : (0 < sum_by (one_at x) ys → In x ys) → (b : Bool) → (y == x) ≡ b → In x (y ∷ ys)
    by later true e = inl (sym (eqb-true y x e))
    by later false e =
        let s = sum_by-cons (one_at x) y ys in
        let k : one_at x y ≡ 0 = ap (λ b. cond b 1 0) e in
        inr (later (omega (arith, s, k, h)))

pub alike-member : (xs ys : List ℕ) → Alike xs ys → (x : ℕ) → In x xs → In x ys
alike-member xs ys a x h = member x ys (let k = a (one_at x) in let l = counted x xs h in omega arith)

pub alike-permutation : (xs ys : List ℕ) → IsPermutation xs ys → Alike xs ys
alike-permutation xs ys p f = sym (sum_by-IsPermutation f xs ys p)

module _ (cmp : ℕ → ℕ → Ordering) (o : IsTotalOrder cmp) where
  put-counts : (f : ℕ → ℕ) (x : ℕ) (ys : List ℕ) → sum_by f (put_in_order cmp x ys) ≡ f x + sum_by f ys
  put-counts f x [] = sum_by-cons f x []
  put-counts f x (y ∷ ys) = by (cmp x y) (put-counts f x ys)
    where
      by : (r : Ordering) → sum_by f (put_in_order cmp x ys) ≡ f x + sum_by f ys → sum_by f (by_order r (x ∷ y ∷ ys) (x ∷ y ∷ ys) (y ∷ put_in_order cmp x ys)) ≡ f x + sum_by f (y ∷ ys)
      by Less k = sum_by-cons f x (y ∷ ys)
      by Equal k = sum_by-cons f x (y ∷ ys)
      by Greater k =
          let s = sum_by-cons f y (put_in_order cmp x ys) in
          let t = sum_by-cons f y ys in
          omega arith

  pub sorted-alike : (xs : List ℕ) → Alike (sorted cmp xs) xs
  sorted-alike [] f = refl
  sorted-alike (x ∷ xs) f =
      let s = put-counts f x (sorted cmp xs) in
      let t = sum_by-cons f x xs in
      let k = sorted-alike xs f in
      omega arith

  tied : (r s : Ordering) → r ≡ ordering_reverse s → is_gt r ≡ false → is_gt s ≡ false → r ≡ Equal
  tied r Less e h k = absurd (cc (e, h))
  tied r Equal e h k = e
  tied r Greater e h k = absurd (cc k)

  first_up_to : (x y : ℕ) (ys : List ℕ) → Below cmp o y ys → In x (y ∷ ys) → is_gt (cmp y x) ≡ false
  first_up_to x y ys b (inl e) = subst (λ w. is_gt (cmp y w) ≡ false) (sym e) (ap is_gt (tied_itself o y))
  first_up_to x y ys b (inr k) = b x k

  pub one_rising : (xs ys : List ℕ) → TellsApart cmp xs → Rising cmp o xs → Rising cmp o ys → Alike xs ys → xs ≡ ys
  one_rising [] [] t r s a = refl
  one_rising [] (y ∷ ys) t r s a = absurd (alike-member (y ∷ ys) [] (λ f. sym (a f)) y (inl refl))
  one_rising (x ∷ xs) [] t r s a = absurd (alike-member (x ∷ xs) [] a x (inl refl))
  one_rising (x ∷ xs) (y ∷ ys) t r s a =
      let m = alike-member (x ∷ xs) (y ∷ ys) a x (inl refl) in
      let n = alike-member (y ∷ ys) (x ∷ xs) (λ f. sym (a f)) y (inl refl) in
      let e : x ≡ y = t x y (inl refl) n (tied (cmp x y) (cmp y x) (o.antisymm x y) (first_up_to y x xs r.0 n) (first_up_to x y ys s.0 m)) in
      let q : xs ≡ ys = one_rising xs ys (λ v w k l. t v w (inr k) (inr l)) r.1 s.1 (tails e) in
      λ i. e i ∷ q i
    where
      tails : x ≡ y → Alike xs ys
      tails e f =
          let u = sum_by-cons f x xs in
          let v = sum_by-cons f y ys in
          let k = a f in
          let l = ap f e in
          omega arith

  -- a list in order that permutes xs is the sorted list of xs
  pub sorted-is : (xs zs : List ℕ) → TellsApart cmp xs → IsPermutation xs zs → Rising cmp o zs → zs ≡ sorted cmp xs
  sorted-is xs zs t p r =
      sym (one_rising (sorted cmp xs) zs (λ x y k l e. t x y (alike-member (sorted cmp xs) xs (sorted-alike xs) x k) (alike-member (sorted cmp xs) xs (sorted-alike xs) y l) e)
      (sorted-rising cmp o xs) r (λ f. sorted-alike xs f ∙ alike-permutation xs zs p f))

-- ---- by places in the list

module _ {A : Type 0} where
  pub at_place : (x : A) (xs : List A) → In x xs → (k : ℕ) × (k < length xs) × ((d : A) → slice_index_or xs k d ≡ x)
  at_place x [] h = absurd h
  at_place x (y ∷ ys) (inl e) = (0, omega arith, λ d. sym e)
  at_place x (y ∷ ys) (inr h) = let r = at_place x ys h in let l : r.0 < length ys = r.1 in (suc r.0, omega arith, r.2)

  pub all-at : (P : A → Type 0) (xs : List A) → All P xs → (x : A) → In x xs → P x
  all-at P xs h x m = let r = at_place x xs m in subst P (r.2 x) (h r.0 x r.1)

  module _ (cmp : A → A → Ordering) (o : IsTotalOrder cmp) where
    turn : (r : Ordering) → is_lt (ordering_reverse r) ≡ false → is_gt r ≡ false
    turn Less e = refl
    turn Equal e = refl
    turn Greater e = e

    far : (x : A) (xs : List A) → IsSortedBy (λ a b. is_lt (cmp a b)) (x ∷ xs) → (y : A) → In y xs → is_gt (cmp x y) ≡ false
    far x xs h y m =
        let r = at_place y xs m in
        let l : r.0 < length xs = r.1 in
        let s : is_lt (cmp (slice_index_or xs r.0 y) x) ≡ false = sorted_far (λ a b. is_lt (cmp a b)) (ranks_by o (λ a. a)) (x ∷ xs) h 0 (suc r.0) y (omega arith) (omega arith) in
        turn (cmp x y) (ap is_lt (sym (o.antisymm y x)) ∙ ap (λ w. is_lt (cmp w x)) (sym (r.2 y)) ∙ s)

    pub rising-sorted : (xs : List A) → IsSortedBy (λ a b. is_lt (cmp a b)) xs → Rising cmp o xs
    rising-sorted [] h = tt
    rising-sorted (x ∷ xs) h = (far x xs h, rising-sorted xs (λ k d l m. subst (λ n. is_lt (cmp (slice_index_or (x ∷ xs) n d) (slice_index_or xs k d)) ≡ false) (further k) (h (suc k) d (omega arith) (omega arith))))
      where
        further : (k : ℕ) → suc k + 1 ≡ suc (k + 1)
        further k = omega arith
