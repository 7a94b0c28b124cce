-- The rows that a power order takes, by ranks: those that are passed, and then its events by power.
use Rattle.std.proofs.Common.{◌≡◌, ℕ, zero, suc, ◌+◌, ◌-◌, ◌<◌, ◌≤◌, Bool, true, false, cond, ◌⊎◌, inl, inr, List, [], ◌∷◌, ◌++◌, map, filter, length, slice_index, nat_le, refl, sym, ap, subst, ◌∙◌, arith}
use Rattle.std.specs.Ordering.{is_gt}
use Rattle.std.proofs.lemmas.List.{length-append}
use Rattle.std.proofs.lemmas.Bool.{le-leb, leb-true}
use Rattle.std.specs.List.{All, range_with_len}
use Rattle.mx_graph.specs.Record.{Row, is_in, event, auth_events}
use Rattle.mx_graph.specs.Graph.{IsSound}
use Rattle.mx_graph.proofs.Closure.{all-in, is_in-from, is_in-to}
use Rattle.mx_graph.proofs.Members.{in_filter, in_append-left, in_append-right, in_append-cases}
use Rattle.mx_orders.specs.PowerOrder.{power_cmp, power_order}
use Rattle.mx_orders.specs.Passed.{ArePassed}
use Rattle.mx_orders.proofs.Members.{In, Distinct}
use Rattle.mx_orders.proofs.Permutations.{Permutes}
use Rattle.mx_orders.proofs.SortedLaws.{Rising, sorted-rising, sorted-permutes}
use Rattle.mx_orders.proofs.CountLemmas.{all-at}
use Rattle.mx_orders.specs.Mainline.{sorted}
use Rattle.mx_orders.proofs.PowerOrderLaws.{power_cmp-total, power_order-permutes}
use Rattle.mx_orders.proofs.RankLemmas.{ranks, rising-at}

-- ---- rows that are passed, and then events by power

-- rows of a sound record, each once, with all that one of them cites from a number on; from a rank on they are in the order of their power
pub record IsPassing (rows : List Row) (xs : List ℕ) (first : ℕ) : Type 0 where
  pub sound : IsSound rows
  pub known : (x : ℕ) → In x xs → x < length rows
  pub distinct : Distinct xs
  pub least : ℕ
  pub low : (x : ℕ) → In x xs → least ≤ x
  pub closed : (x y : ℕ) → In x xs → is_in (auth_events rows (event rows x)) y ≡ true → least ≤ y → In y xs
  pub rises : (u q : ℕ) → first ≤ u → u ≤ q → q < length xs → is_gt (power_cmp rows (slice_index xs u) (slice_index xs q)) ≡ false

distinct-append : (xs ys : List ℕ) → Distinct xs → Distinct ys → ((x : ℕ) → In x xs → ¬ In x ys) → Distinct (xs ++ ys)
distinct-append [] ys d e apart = e
distinct-append (x ∷ xs) ys d e apart = (λ k. by (in_append-cases x xs ys k), distinct-append xs ys d.1 e (λ z m. apart z (inr m)))
  where
    by : In x xs ⊎ In x ys → ⊥
    by (inl m) = d.0 m
    by (inr m) = apart x (inl refl) m

index-past : (xs ys : List ℕ) (u : ℕ) → slice_index (xs ++ ys) (length xs + u) ≡ slice_index ys u
index-past [] ys u = ap (slice_index ys) (omega arith)
index-past (x ∷ xs) ys u = ap (slice_index (x ∷ xs ++ ys)) (further (length xs) u) ∙ index-past xs ys u
  where
    further : (n u : ℕ) → suc n + u ≡ suc (n + u)
    further n u = omega arith

-- the ranks from that of the first event on
abbrev pub of_events : ℕ → List ℕ → List ℕ
of_events first us = filter (nat_le first) us

all_from : (a s n : ℕ) → a ≤ s → of_events a (range_with_len s n) ≡ range_with_len s n
all_from a s zero h = refl
all_from a s (suc n) h = ap (λ b. cond b (s ∷ of_events a (range_with_len (s + 1) n)) (of_events a (range_with_len (s + 1) n))) (le-leb a s h) ∙ ap (λ ys. s ∷ ys) (all_from a (s + 1) n (omega arith))

none_before : (a s d n m : ℕ) → s + d ≡ a → m ≡ d + n → of_events a (range_with_len s m) ≡ range_with_len a n
none_before a s zero n m e k = let l : a ≤ s = omega (arith, e) in all_from a s m l ∙ (λ i. range_with_len (start i) (size i))
  where
    start : s ≡ a
    start = omega (arith, e)

    size : m ≡ n
    size = omega (arith, k)
none_before a s (suc d) n zero e k = absurd (omega (arith, k))
none_before a s (suc d) n (suc m) e k =
    let f : (s + 1) + d ≡ a = omega (arith, e) in
    let g : m ≡ d + n = omega (arith, k) in
    ap (λ b. cond b (s ∷ of_events a (range_with_len (s + 1) m)) (of_events a (range_with_len (s + 1) m))) (dropped (nat_le a s) refl) ∙ none_before a (s + 1) d n m f g
  where
    dropped : (b : Bool) → nat_le a s ≡ b → b ≡ false
    dropped true f = let l : a ≤ s = leb-true a s f in absurd (omega (arith, l, e))
    dropped false f = refl

map-from : (f : ℕ → ℕ) (ys : List ℕ) (a : ℕ) → ((k : ℕ) → f (a + k) ≡ slice_index ys k) → map f (range_with_len a (length ys)) ≡ ys
map-from f [] a h = refl
map-from f (y ∷ ys) a h = λ i. here i ∷ map-from f ys (a + 1) later i
  where
    here : f a ≡ y
    here = ap f (omega arith) ∙ h 0

    later : (k : ℕ) → f ((a + 1) + k) ≡ slice_index ys k
    later k = ap f (omega arith) ∙ h (suc k)

events-map : (xs ys : List ℕ) → map (slice_index (xs ++ ys)) (of_events (length xs) (ranks (xs ++ ys))) ≡ ys
events-map xs ys =
    ap (map (slice_index (xs ++ ys))) (none_before (length xs) 0 (length xs) (length ys) (length (xs ++ ys)) (omega arith) (length-append xs ys))
    ∙ map-from (slice_index (xs ++ ys)) ys (length xs) (index-past xs ys)

-- events that are sorted behind the rows that they pass
passing : (rows : List Row) (events passed members : List ℕ) → IsSound rows → All (λ x. x < length rows) events → Distinct events → members ≡ sorted (power_cmp rows) events → ArePassed rows events passed → IsPassing rows (passed ++ members) (length passed)
passing rows events passed members sound known d e a = record {
  sound = sound;
  known = λ x k. by_known x (in_append-cases x passed members k);
  distinct = distinct-append passed members a.distinct (subst Distinct (sym e) p.distinct) (λ x k m. a.apart x k (back x m));
  least = a.least;
  low = λ x k. a.low x (given x k);
  closed = λ x y k m l. again y (a.closed x y (given x k) (is_in-from y _ (in_filter (nat_le a.least) y _ (is_in-to y _ m) (le-leb a.least y l))));
  rises = rises;
}
  where
    p : Permutes events (sorted (power_cmp rows) events)
    p = sorted-permutes (power_cmp rows) (power_cmp-total rows) events d

    back : (x : ℕ) → In x members → In x events
    back x m = p.within x (subst (λ ys. In x ys) e m)

    forth : (x : ℕ) → In x events → In x members
    forth x m = subst (λ ys. In x ys) (sym e) (p.whole x m)

    given : (x : ℕ) → In x (passed ++ members) → In x (passed ++ events)
    given x k = by (in_append-cases x passed members k)
      where
        by : In x passed ⊎ In x members → In x (passed ++ events)
        by (inl m) = in_append-left x passed events m
        by (inr m) = in_append-right x passed events (back x m)

    again : (x : ℕ) → In x (passed ++ events) → In x (passed ++ members)
    again x k = by (in_append-cases x passed events k)
      where
        by : In x passed ⊎ In x events → In x (passed ++ members)
        by (inl m) = in_append-left x passed members m
        by (inr m) = in_append-right x passed members (forth x m)

    by_known : (x : ℕ) → In x passed ⊎ In x members → x < length rows
    by_known x (inl m) = a.known x m
    by_known x (inr m) = all-at (λ x. x < length rows) events known x (back x m)

    rising : Rising (power_cmp rows) (power_cmp-total rows) members
    rising = subst (Rising (power_cmp rows) (power_cmp-total rows)) (sym e) (sorted-rising (power_cmp rows) (power_cmp-total rows) events)

    past : (u : ℕ) → length passed ≤ u → (v : ℕ) × (u ≡ length passed + v)
    past u h = (u - length passed, omega arith)

    rises : (u q : ℕ) → length passed ≤ u → u ≤ q → q < length (passed ++ members) → is_gt (power_cmp rows (slice_index (passed ++ members) u) (slice_index (passed ++ members) q)) ≡ false
    rises u q h l b =
        let v = past u h in
        let w = past q (omega arith) in
        let n = length-append passed members in
        let vw : v.0 ≤ w.0 = let g = v.1 in let k = w.1 in omega (arith, g, k, l) in
        let short : w.0 < length members = let k = w.1 in omega (arith, k, n, b) in
        ap (λ z. is_gt (power_cmp rows z (slice_index (passed ++ members) q))) (ap (slice_index (passed ++ members)) v.1 ∙ index-past passed members v.0)
        ∙ ap (λ z. is_gt (power_cmp rows (slice_index members v.0) z)) (ap (slice_index (passed ++ members)) w.1 ∙ index-past passed members w.0)
        ∙ rising-at (power_cmp rows) (power_cmp-total rows) members v.0 w.0 rising vw short

same_order : (rows : List Row) (events xs : List ℕ) → IsSound rows → All (λ x. x < length rows) events → Distinct events → xs ≡ sorted (power_cmp rows) events → power_order rows xs ≡ power_order rows events
same_order rows events xs sound known d e =
    ap (power_order rows) e
    ∙ sym (power_order-permutes rows sound events (sorted (power_cmp rows) events) (λ z k. all-at (λ x. x < length rows) events known z k) d (sorted-permutes (power_cmp rows) (power_cmp-total rows) events d))

-- the rows that are passed, and then the events
pub numbers-passing : (rows : List Row) (events passed members xs : List ℕ) (first : ℕ) → IsSound rows → All (λ x. x < length rows) events → Distinct events → members ≡ sorted (power_cmp rows) events → ArePassed rows events passed → xs ≡ passed ++ members → first ≡ length passed
    → IsPassing rows xs first × (power_order rows (map (slice_index xs) (of_events first (ranks xs))) ≡ power_order rows events)
numbers-passing rows events passed members xs first sound known d e a g n = (
  subst (λ ys. IsPassing rows ys first) (sym g) (subst (IsPassing rows (passed ++ members)) (sym n) (passing rows events passed members sound known d e a)),
  (λ i. power_order rows (map (slice_index (g i)) (of_events (n i) (ranks (g i))))) ∙ ap (power_order rows) (events-map passed members) ∙ same_order rows events members sound known d e,
)

pub passing-known : (rows : List Row) (xs : List ℕ) (first : ℕ) → IsPassing rows xs first → All (λ x. x < length rows) xs
passing-known rows xs first s = all-in (λ x. x < length rows) xs (λ x k. s.known x (is_in-to x xs k))
