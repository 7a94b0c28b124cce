-- What is sorted is in order, and has the same members.
use Rattle.std.proofs.Common.{◌≡◌, true, false, ◌⊎◌, inl, inr, List, [], ◌∷◌, refl, sym, ap, subst, ◌∙◌}
use Rattle.std.specs.declared.cmp.Ordering.{Ordering}
use Rattle.std.specs.declared.cmp.Ordering.TheVariants.{Less, Equal, Greater}
use Rattle.std.specs.Ordering.{is_gt, ordering_reverse}
use Rattle.std.specs.Cmp.{IsTotalOrder, upto}
use Rattle.std.specs.FinMap.Entries.{by_order}
use Rattle.mx_orders.specs.Mainline.{put_in_order, sorted}
use Rattle.mx_orders.proofs.Members.{In, Distinct}
use Rattle.mx_orders.proofs.Permutations.{Permutes}

module _ {A : Type 0} (cmp : A → A → Ordering) (o : IsTotalOrder cmp) where
  abbrev pub Below : A → List A → Type 0
  Below x xs = (y : A) → In y xs → is_gt (cmp x y) ≡ false

  -- each element is up to those after it
  abbrev pub Rising : List A → Type 0
  Rising [] = Unit {0}
  Rising (x ∷ xs) = Below x xs × Rising xs

  -- ---- one element put in

  put_cases : (x : A) (ys : List A) (z : A) → In z (put_in_order cmp x ys) → (z ≡ x) ⊎ In z ys
  put_cases x [] z h = h
  put_cases x (y ∷ ys) z h = by (cmp x y) (put_cases x ys z) h
    where
      later : (In z (put_in_order cmp x ys) → (z ≡ x) ⊎ In z ys) → In z (y ∷ put_in_order cmp x ys) → (z ≡ x) ⊎ In z (y ∷ ys)
      later f (inl e) = inr (inl e)
      later f (inr k) = side (f k)
        where
          side : (z ≡ x) ⊎ In z ys → (z ≡ x) ⊎ In z (y ∷ ys)
          side (inl e) = inl e
          side (inr m) = inr (inr m)

      by : (r : Ordering) → (In z (put_in_order cmp x ys) → (z ≡ x) ⊎ In z ys) → In z (by_order r (x ∷ y ∷ ys) (x ∷ y ∷ ys) (y ∷ put_in_order cmp x ys)) → (z ≡ x) ⊎ In z (y ∷ ys)
      by Less f k = k
      by Equal f k = k
      by Greater f k = later f k

  put_has : (x : A) (ys : List A) (z : A) → (z ≡ x) ⊎ In z ys → In z (put_in_order cmp x ys)
  put_has x [] z h = h
  put_has x (y ∷ ys) z h = by (cmp x y) (put_has x ys z) h
    where
      by : (r : Ordering) → ((z ≡ x) ⊎ In z ys → In z (put_in_order cmp x ys)) → (z ≡ x) ⊎ In z (y ∷ ys) → In z (by_order r (x ∷ y ∷ ys) (x ∷ y ∷ ys) (y ∷ put_in_order cmp x ys))
      by Less f k = k
      by Equal f k = k
      by Greater f (inl e) = inr (f (inl e))
      by Greater f (inr (inl e)) = inl e
      by Greater f (inr (inr m)) = inr (f (inr m))

  turned : (r : Ordering) → is_gt r ≡ true → is_gt (ordering_reverse r) ≡ false
  turned Less e = absurd (cc e)
  turned Equal e = refl
  turned Greater e = refl

  put_rising : (x : A) (ys : List A) → Rising ys → Rising (put_in_order cmp x ys)
  put_rising x [] r = (λ y h. absurd h, tt)
  put_rising x (y ∷ ys) r = by (cmp x y) refl (put_rising x ys r.1)
    where
      before_all : is_gt (cmp x y) ≡ false → Below x (y ∷ ys)
      before_all e z (inl k) = subst (λ w. is_gt (cmp x w) ≡ false) (sym k) e
      before_all e z (inr k) = upto o x y z e (r.0 z k)

      after : is_gt (cmp y x) ≡ false → (z : A) → (z ≡ x) ⊎ In z ys → is_gt (cmp y z) ≡ false
      after e z (inl k) = subst (λ w. is_gt (cmp y w) ≡ false) (sym k) e
      after e z (inr k) = r.0 z k

      by : (s : Ordering) → cmp x y ≡ s → Rising (put_in_order cmp x ys) → Rising (by_order s (x ∷ y ∷ ys) (x ∷ y ∷ ys) (y ∷ put_in_order cmp x ys))
      by Less e later = (before_all (ap is_gt e), r)
      by Equal e later = (before_all (ap is_gt e), r)
      by Greater e later = (λ z k. after (ap is_gt (o.antisymm y x) ∙ turned (cmp x y) (ap is_gt e)) z (put_cases x ys z k), later)

  put_distinct : (x : A) (ys : List A) → ¬ In x ys → Distinct ys → Distinct (put_in_order cmp x ys)
  put_distinct x [] n d = (λ k. k, tt)
  put_distinct x (y ∷ ys) n d = by (cmp x y) (put_distinct x ys (λ k. n (inr k)) d.1)
    where
      apart : (y ≡ x) ⊎ In y ys → ⊥
      apart (inl e) = n (inl (sym e))
      apart (inr k) = d.0 k

      by : (s : Ordering) → Distinct (put_in_order cmp x ys) → Distinct (by_order s (x ∷ y ∷ ys) (x ∷ y ∷ ys) (y ∷ put_in_order cmp x ys))
      by Less later = (n, d)
      by Equal later = (n, d)
      by Greater later = (λ k. apart (put_cases x ys y k), later)

  -- ---- the sorted list

  pub sorted-rising : (xs : List A) → Rising (sorted cmp xs)
  sorted-rising [] = tt
  sorted-rising (x ∷ xs) = put_rising x (sorted cmp xs) (sorted-rising xs)

  pub sorted-permutes : (xs : List A) → Distinct xs → Permutes xs (sorted cmp xs)
  sorted-permutes [] d = record { distinct = tt; within = λ z k. k; whole = λ z k. k }
  sorted-permutes (x ∷ xs) d = step (sorted-permutes xs d.1)
    where
      within : Permutes xs (sorted cmp xs) → (z : A) → (z ≡ x) ⊎ In z (sorted cmp xs) → In z (x ∷ xs)
      within p z (inl e) = inl e
      within p z (inr k) = inr (p.within z k)

      whole : Permutes xs (sorted cmp xs) → (z : A) → In z (x ∷ xs) → (z ≡ x) ⊎ In z (sorted cmp xs)
      whole p z (inl e) = inl e
      whole p z (inr k) = inr (p.whole z k)

      step : Permutes xs (sorted cmp xs) → Permutes (x ∷ xs) (sorted cmp (x ∷ xs))
      step p = record {
        distinct = put_distinct x (sorted cmp xs) (λ k. d.0 (p.within x k)) p.distinct;
        within = λ z k. within p z (put_cases x (sorted cmp xs) z k);
        whole = λ z k. put_has x (sorted cmp xs) z (whole p z k);
      }
