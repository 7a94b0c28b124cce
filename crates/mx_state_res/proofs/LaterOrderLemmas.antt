-- The order of events to which one more is added is their order with it put in.
use Rattle.std.proofs.Common.{◌≡◌, ℕ, zero, suc, ◌+◌, ◌==◌, ◌≤◌, ◌<◌, true, false, ◌||◌, ◌⊎◌, inl, inr, List, [], ◌∷◌, length, slice_index_or, refl, sym, ap, subst, ◌∙◌, arith, eq-eqb, eqb-true}
use Rattle.std.specs.declared.cmp.Ordering.{Ordering}
use Rattle.std.specs.declared.cmp.Ordering.TheVariants.{Less, Equal, Greater}
use Rattle.std.specs.Ordering.{is_gt, ordering_reverse}
use Rattle.std.specs.Cmp.{IsTotalOrder, tied_itself}
use Rattle.std.specs.List.{range_with_len}
use Rattle.mx_graph.specs.Record.{Row, is_in, places}
use Rattle.mx_graph.specs.Graph.{IsSound}
use Rattle.mx_graph.proofs.Closure.{one_answer, or_cases, or_left, or_right, range-parts, is_in-from, is_in-to}
use Rattle.mx_orders.specs.Mainline.{put_in_order, sorted, mainline_cmp, mainline_order}
use Rattle.mx_orders.proofs.Members.{In, Distinct, filter-distinct}
use Rattle.mx_orders.proofs.LeastOrder.{TellsApart}
use Rattle.mx_orders.proofs.Permutations.{Permutes}
use Rattle.mx_orders.proofs.PlaceLemmas.{mainline_cmp-tells, mainline_cmp-total}
use Rattle.mx_orders.proofs.SortedLaws.{Below, Rising, sorted-rising, sorted-permutes}
use Rattle.mx_graph.specs.StateMap.{State}
use Rattle.mx_state_res.specs.Resolution.{conflicted, auth_difference, full_conflicted}

-- ---- sets of events have each event once

distinct-range : (a n : ℕ) → Distinct (range_with_len a n)
distinct-range a zero = tt
distinct-range a (suc n) =
    (λ h. let b = range-parts (a + 1) n a h in let low : a + 1 ≤ a = b.0 in omega arith, distinct-range (a + 1) n)

pub distinct-full : (rows : List Row) (states : List State) → Distinct (full_conflicted rows states)
unfolding full_conflicted
distinct-full rows states = filter-distinct (λ p. is_in (conflicted rows states) p || is_in (auth_difference rows states) p) (places rows) (distinct-range 0 (length rows))

-- ---- lists in order with the same members are one list

module _ (cmp : ℕ → ℕ → Ordering) (o : IsTotalOrder cmp) where
  tied : (r s : Ordering) → r ≡ ordering_reverse s → is_gt r ≡ false → is_gt s ≡ false → r ≡ Equal
  tied r Less e h k = absurd (cc (e, h))
  tied r Equal e h k = e
  tied r Greater e h k = absurd (cc k)

  first_up_to : (x y : ℕ) (ys : List ℕ) → Below cmp o y ys → In x (y ∷ ys) → is_gt (cmp y x) ≡ false
  first_up_to x y ys b (inl e) = subst (λ w. is_gt (cmp y w) ≡ false) (sym e) (ap is_gt (tied_itself o y))
  first_up_to x y ys b (inr k) = b x k

  abbrev Within : List ℕ → List ℕ → Type 0
  Within xs ys = (z : ℕ) → In z xs → In z ys

  same-rising : (xs ys : List ℕ) → TellsApart cmp xs → Rising cmp o xs → Rising cmp o ys → Distinct xs → Distinct ys → Within xs ys → Within ys xs → xs ≡ ys
  same-rising [] [] t r s d e f g = refl
  same-rising [] (y ∷ ys) t r s d e f g = absurd (g y (inl refl))
  same-rising (x ∷ xs) [] t r s d e f g = absurd (f x (inl refl))
  same-rising (x ∷ xs) (y ∷ ys) t r s d e f g =
      let m = f x (inl refl) in
      let n = g y (inl refl) in
      let q : x ≡ y = t x y (inl refl) n (tied (cmp x y) (cmp y x) (o.antisymm x y) (first_up_to y x xs r.0 n) (first_up_to x y ys s.0 m)) in
      let w : xs ≡ ys = same-rising xs ys (λ u v k l. t u v (inr k) (inr l)) r.1 s.1 d.1 e.1 (forth q) (back q) in
      λ i. q i ∷ w i
    where
      forth : x ≡ y → Within xs ys
      forth q z k = by (f z (inr k))
        where
          by : (z ≡ y) ⊎ In z ys → In z ys
          by (inl c) = absurd (d.0 (subst (λ w. In w xs) (c ∙ sym q) k))
          by (inr l) = l

      back : x ≡ y → Within ys xs
      back q z k = by (g z (inr k))
        where
          by : (z ≡ x) ⊎ In z xs → In z xs
          by (inl c) = absurd (e.0 (subst (λ w. In w ys) (c ∙ q) k))
          by (inr l) = l

  pub sorted-later : (xs ys : List ℕ) (x : ℕ) → TellsApart cmp ys → Distinct xs → Distinct ys → is_in xs x ≡ false → ((p : ℕ) → is_in ys p ≡ (is_in xs p || (x == p)))
      → sorted cmp ys ≡ put_in_order cmp x (sorted cmp xs)
  sorted-later xs ys x t d e new same =
      same-rising (sorted cmp ys) (sorted cmp (x ∷ xs)) (λ u v k l. t u v (old.within u k) (old.within v l))
      (sorted-rising cmp o ys) (sorted-rising cmp o (x ∷ xs)) old.distinct more.distinct forth back
    where
      old : Permutes ys (sorted cmp ys)
      old = sorted-permutes cmp o ys e

      more : Permutes (x ∷ xs) (sorted cmp (x ∷ xs))
      more = sorted-permutes cmp o (x ∷ xs) (λ m. absurd (cc (sym new ∙ is_in-from x xs m)), d)

      into : (z : ℕ) → (is_in xs z ≡ true) ⊎ ((x == z) ≡ true) → In z (x ∷ xs)
      into z (inl k) = inr (is_in-to z xs k)
      into z (inr k) = inl (sym (eqb-true x z k))

      forth : Within (sorted cmp ys) (sorted cmp (x ∷ xs))
      forth z k = more.whole z (into z (or_cases (is_in xs z) (x == z) (sym (same z) ∙ is_in-from z ys (old.within z k))))

      out : (z : ℕ) → (z ≡ x) ⊎ In z xs → (is_in xs z || (x == z)) ≡ true
      out z (inl k) = or_right (is_in xs z) (x == z) (eq-eqb x z (sym k))
      out z (inr k) = or_left (is_in xs z) (x == z) (is_in-from z xs k)

      back : Within (sorted cmp (x ∷ xs)) (sorted cmp ys)
      back z k = old.whole z (is_in-to z ys (same z ∙ out z (more.within z k)))

pub order-later : (rows : List Row) → IsSound rows → (line xs ys : List ℕ) (x : ℕ) → ((p : ℕ) → In p ys → p < length rows) → Distinct xs → Distinct ys → is_in xs x ≡ false → ((p : ℕ) → is_in ys p ≡ (is_in xs p || (x == p)))
    → mainline_order rows line ys ≡ put_in_order (mainline_cmp rows line) x (mainline_order rows line xs)
unfolding mainline_order
order-later rows sound line xs ys x known d e new same =
    sorted-later (mainline_cmp rows line) (mainline_cmp-total rows line) xs ys x (mainline_cmp-tells rows line sound ys known) d e new same

-- ---- the order of a mainline

pub order-members : (rows : List Row) (line xs : List ℕ) → Distinct xs → (p : ℕ) → is_in (mainline_order rows line xs) p ≡ is_in xs p
unfolding mainline_order
order-members rows line xs d p =
    let same = sorted-permutes (mainline_cmp rows line) (mainline_cmp-total rows line) xs d in
    one_answer (is_in (sorted (mainline_cmp rows line) xs) p) (is_in xs p)
    (λ e. is_in-from p xs (same.within p (is_in-to p (sorted (mainline_cmp rows line) xs) e)))
    (λ e. is_in-from p (sorted (mainline_cmp rows line) xs) (same.whole p (is_in-to p xs e)))

module _ (cmp : ℕ → ℕ → Ordering) (o : IsTotalOrder cmp) where
  there : (xs : List ℕ) (i : ℕ) → i < length xs → In (slice_index_or xs i 0) xs
  there [] i l = absurd (omega arith)
  there (x ∷ xs) zero l = inl refl
  there (x ∷ xs) (suc i) l = inr (there xs i (omega arith))

  rising-in-order : (xs : List ℕ) → Rising cmp o xs → (i j : ℕ) → i ≤ j → j < length xs → is_gt (cmp (slice_index_or xs i 0) (slice_index_or xs j 0)) ≡ false
  rising-in-order [] r i j h l = absurd (omega arith)
  rising-in-order (x ∷ xs) r zero zero h l = ap is_gt (tied_itself o x)
  rising-in-order (x ∷ xs) r zero (suc j) h l = r.0 (slice_index_or xs j 0) (there xs j (omega arith))
  rising-in-order (x ∷ xs) r (suc i) zero h l = absurd (omega arith)
  rising-in-order (x ∷ xs) r (suc i) (suc j) h l = rising-in-order xs r.1 i j (omega arith) (omega arith)

pub order-in-order : (rows : List Row) (line xs : List ℕ) (i j : ℕ) → i ≤ j → j < length (mainline_order rows line xs)
    → is_gt (mainline_cmp rows line (slice_index_or (mainline_order rows line xs) i 0) (slice_index_or (mainline_order rows line xs) j 0)) ≡ false
unfolding mainline_order
order-in-order rows line xs = rising-in-order (mainline_cmp rows line) (mainline_cmp-total rows line) (sorted (mainline_cmp rows line) xs) (sorted-rising (mainline_cmp rows line) (mainline_cmp-total rows line) xs)
