-- Events by their ranks: places in a list whose elements are distinct, and in order.
use Rattle.std.proofs.Common.{◌≡◌, ℕ, zero, suc, ◌+◌, ◌≤◌, ◌<◌, ◌⊎◌, ◌==◌, ◌||◌, ◌++◌, Bool, true, false, cond, eq-eqb, inl, inr, List, [], ◌∷◌, map, length, slice_index, slice_index_or, refl, sym, ap, subst, ◌∙◌, arith}
use Rattle.std.specs.declared.cmp.Ordering.{Ordering}
use Rattle.std.specs.Ordering.{is_gt, nat_cmp}
use Rattle.std.specs.Cmp.{IsTotalOrder, tied_itself}
use Rattle.std.specs.Prelude.{Vec}
use Rattle.std.specs.List.{All, range_with_len}
use Rattle.std.proofs.lemmas.List.Elements.{All-push}
use Rattle.std.specs.declared.alloc.Global.{Global}
use Rattle.std.proofs.lemmas.Bool.Decides.{nat_tests}
use Rattle.std.proofs.lemmas.List.Sums.{sum_by-cons}
use Rattle.std.proofs.Math.Nat.{eq-or-lt_of_le}
use Rattle.mx_graph.specs.Edges.{cited}
use Rattle.mx_graph.specs.Record.{is_in}
use Rattle.mx_graph.proofs.Members.{in_append-cases}
use Rattle.mx_graph.proofs.Closure.{range-parts}
use Rattle.mx_orders.proofs.Members.{In, Distinct, in_map-from}
use Rattle.mx_orders.proofs.SortedLaws.{Rising}
use Rattle.mx_orders.specs.Ranks.{times, total_of}
use Rattle.mx_orders.proofs.ReadyLemmas.{total}

pub at_most : (r q : ℕ) → is_gt (nat_cmp r q) ≡ false → r ≤ q
at_most r q e = grind (arith, nat_tests)

pub in_at : (xs : List ℕ) (u : ℕ) → u < length xs → In (slice_index xs u) xs
in_at [] u h = absurd (omega (arith, h))
in_at (x ∷ xs) zero h = inl refl
in_at (x ∷ xs) (suc u) h = let l : u < length xs = omega (arith, h) in inr (in_at xs u l)

pub at_any : (xs : List ℕ) (u x : ℕ) → u < length xs → x ≡ slice_index_or xs u x → x ≡ slice_index xs u
at_any [] u x h e = absurd (omega (arith, h))
at_any (y ∷ xs) zero x h e = e
at_any (y ∷ xs) (suc u) x h e = let l : u < length xs = omega (arith, h) in at_any xs u x l e

pub distinct-at : (xs : List ℕ) (u v : ℕ) → Distinct xs → u < length xs → v < length xs → slice_index xs u ≡ slice_index xs v → u ≡ v
distinct-at [] u v d h k e = absurd (omega (arith, h))
distinct-at (x ∷ xs) zero zero d h k e = refl
distinct-at (x ∷ xs) zero (suc v) d h k e = let l : v < length xs = omega (arith, k) in absurd (d.0 (subst (λ w. In w xs) (sym e) (in_at xs v l)))
distinct-at (x ∷ xs) (suc u) zero d h k e = let l : u < length xs = omega (arith, h) in absurd (d.0 (subst (λ w. In w xs) e (in_at xs u l)))
distinct-at (x ∷ xs) (suc u) (suc v) d h k e =
    let l : u < length xs = omega (arith, h) in
    let m : v < length xs = omega (arith, k) in
    ap suc (distinct-at xs u v d.1 l m e)

-- one more, which is not there
pub distinct-push : (xs : List ℕ) (x : ℕ) → Distinct xs → is_in xs x ≡ false → Distinct (xs ++ x ∷ [])
distinct-push [] x d e = (λ k. k, tt)
distinct-push (y ∷ ys) x d e = (λ k. apart (in_append-cases y ys (x ∷ []) k), distinct-push ys x d.1 (later (y == x) e))
  where
    later : (b : Bool) → (b || is_in ys x) ≡ false → is_in ys x ≡ false
    later true k = absurd (cc k)
    later false k = k

    apart : In y ys ⊎ In y (x ∷ []) → ⊥
    apart (inl m) = d.0 m
    apart (inr (inl k)) = absurd (cc (sym (ap (λ b. b || is_in ys x) (eq-eqb y x k)) ∙ e))
    apart (inr (inr m)) = m

-- known events, each once, with one more or without it
pub one_more_named : (b : Bool) (n x : ℕ) (xs ys : List ℕ) → ys ≡ cond b (xs ++ x ∷ []) xs → All (λ y. y < n) xs → Distinct xs → x < n → is_in xs x ≡ false → All (λ y. y < n) ys × Distinct ys
one_more_named true n x xs ys e known d k a = subst (λ zs. All (λ y. y < n) zs × Distinct zs) (sym e) (All-push (λ y. y < n) xs x known k, distinct-push xs x d a)
one_more_named false n x xs ys e known d k a = subst (λ zs. All (λ y. y < n) zs × Distinct zs) (sym e) (known, d)

pub distinct-map : (xs us : List ℕ) → Distinct xs → ((u : ℕ) → In u us → u < length xs) → Distinct us → Distinct (map (slice_index xs) us)
distinct-map xs [] d h k = tt
distinct-map xs (u ∷ us) d h k = (
  λ m. let r = in_map-from (slice_index xs) (slice_index xs u) us m in
      k.0 (subst (λ w. In w us) (sym (distinct-at xs u r.0 d (h u (inl refl)) (h r.0 (inr r.1)) r.2)) r.1),
  distinct-map xs us d (λ v m. h v (inr m)) k.1,
)

module _ (cmp : ℕ → ℕ → Ordering) (o : IsTotalOrder cmp) where
  pub rising-at : (xs : List ℕ) (u v : ℕ) → Rising cmp o xs → u ≤ v → v < length xs → is_gt (cmp (slice_index xs u) (slice_index xs v)) ≡ false
  rising-at [] u v r l h = absurd (omega (arith, h))
  rising-at (x ∷ xs) zero zero r l h = ap is_gt (tied_itself o x)
  rising-at (x ∷ xs) zero (suc v) r l h = let m : v < length xs = omega (arith, h) in r.0 (slice_index xs v) (in_at xs v m)
  rising-at (x ∷ xs) (suc u) zero r l h = absurd (omega (arith, l))
  rising-at (x ∷ xs) (suc u) (suc v) r l h =
      let m : v < length xs = omega (arith, h) in
      let n : u ≤ v = omega (arith, l) in
      rising-at xs u v r.1 n m

-- ---- all ranks

abbrev pub ranks : List ℕ → List ℕ
ranks xs = range_with_len 0 (length xs)

in_range : (a n x : ℕ) → a ≤ x → x < a + n → In x (range_with_len a n)
in_range a zero x h k = absurd (omega (arith, h, k))
in_range a (suc n) x h k = by (eq-or-lt_of_le h) (λ l m. in_range (a + 1) n x l m) k
  where
    by : (a ≡ x) ⊎ (a < x) → (a + 1 ≤ x → x < (a + 1) + n → In x (range_with_len (a + 1) n)) → x < a + suc n → In x (range_with_len a (suc n))
    by (inl e) later k = inl (sym e)
    by (inr l) later k = let m : a + 1 ≤ x = omega (arith, l) in let n : x < (a + 1) + n = omega (arith, k) in inr (later m n)

pub in_ranks : (xs : List ℕ) (u : ℕ) → u < length xs → In u (ranks xs)
in_ranks xs u h = let z : 0 ≤ u = omega arith in let l : u < 0 + length xs = omega (arith, h) in in_range 0 (length xs) u z l

pub ranks-below : (xs : List ℕ) (u : ℕ) → In u (ranks xs) → u < length xs
ranks-below xs u h = let r = (range-parts 0 (length xs) u h).1 in omega (arith, r)

distinct-range : (a n : ℕ) → Distinct (range_with_len a n)
distinct-range a zero = tt
distinct-range a (suc n) = (λ h. above a ((range-parts (a + 1) n a h).0), distinct-range (a + 1) n)
  where
    above : (a : ℕ) → a + 1 ≤ a → ⊥
    above a h = omega (arith, h)

pub distinct-ranks : (xs : List ℕ) → Distinct (ranks xs)
distinct-ranks xs = distinct-range 0 (length xs)

-- ---- how often a rank is in the lists

total_of-range : (lists : List (Vec ℕ Global)) (f : ℕ → List ℕ) (a p : ℕ) → ((i : ℕ) → f (a + i) ≡ cited lists i) → total_of lists p ≡ total f (range_with_len a (length lists)) p
total_of-range [] f a p h = refl
total_of-range (v ∷ vs) f a p h =
    let s = sum_by-cons (λ (w : Vec ℕ Global). times p w.items) v vs in
    let t = sum_by-cons (λ u. times p (f u)) a (range_with_len (a + 1) (length vs)) in
    let here : times p (f a) ≡ times p v.items = ap (times p) (ap f (zero_more a) ∙ h 0) in
    let later = total_of-range vs f (a + 1) p (λ i. ap f (one_more a i) ∙ h (suc i)) in
    omega (arith, s, t, here, later)
  where
    zero_more : (a : ℕ) → a ≡ a + 0
    zero_more a = omega arith

    one_more : (a i : ℕ) → (a + 1) + i ≡ a + suc i
    one_more a i = omega arith

pub total_of-ranks : (lists : List (Vec ℕ Global)) (p : ℕ) → total_of lists p ≡ total (cited lists) (range_with_len 0 (length lists)) p
total_of-ranks lists p = total_of-range lists (cited lists) 0 p (λ i. ap (cited lists) (same i))
  where
    same : (i : ℕ) → 0 + i ≡ i
    same i = omega arith
