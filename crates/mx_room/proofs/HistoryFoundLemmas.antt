-- Walks over the rows of a record: their steps, and what they find.
use Rattle.std.proofs.Common.{◌≡◌, ℕ, ◌==◌, ◌≤◌, ◌<◌, nat_le, Bool, true, false, cond, ◌&&◌, ◌||◌, ◌⊎◌, inl, inr, not, List, [], ◌∷◌, ◌++◌, filter, length, refl, sym, ap, subst, ◌∙◌, arith}
use Rattle.std.specs.Prelude.{take}
use Rattle.std.specs.BTreeSet.{BTreeSet, contains}
use Rattle.std.specs.Ordering.{is_lt, nat_cmp}
use Rattle.std.proofs.lemmas.Bool.{le-leb, leb-true}
use Rattle.mx_pdu.specs.Event.{depth_of}
use Rattle.mx_graph.specs.Depths.{AreBounds, depth_bound}
use Rattle.mx_graph.specs.Edges.{IsAllFrom, Rises}
use Rattle.mx_graph.specs.Graph.{IsLeastClosed, IsSound, ancestors}
use Rattle.mx_graph.specs.Record.{Row, event, is_in, places, prev_events}
use Rattle.mx_graph.proofs.Members.{in_filter, in_filter-parts}
use Rattle.mx_graph.proofs.Closure.{all-in, is_in-from, is_in-to, or_cases, or_left, or_right, same_tests, range-parts}
use Rattle.mx_graph.proofs.ReachedLemmas.{closures-least, rising-filter}
use Rattle.mx_orders.specs.Mainline.{sorted}
use Rattle.mx_room.specs.EventOrders.{is_as_deep}
use Rattle.mx_room.specs.HistoryWalks.{AreRows, IsLast, IsWalk, Walks, bounded, is_behind, is_sought, is_under, row_cmp, sought_between, waits}
use Rattle.mx_room.specs.Queries.{depth_falling}
use Rattle.mx_room.specs.declared.queries.history_walks.HistoryWalk.{HistoryWalk}
use Rattle.mx_room.specs.declared.queries.history_walks.RowByDepth.{RowByDepth}
use Rattle.mx_room.specs.declared.queries.history_walks.Sought.{Sought}
use Rattle.mx_room.proofs.DeepestLemmas.{enough-deep, filter-all}
use Rattle.mx_room.proofs.HistoryOrderLemmas.{in-append_one, less-is}
use Rattle.mx_room.proofs.HistoryWalkLemmas.{walk-ends, walk-leaves, walk-looks}

-- ---- what lies behind some events

module _ (rows : List Row) (sound : IsSound rows) where
  abbrev pub cites : ℕ → List ℕ
  cites p = prev_events rows (event rows p)

  pub behind-all : (starts : List ℕ) → IsAllFrom cites (is_in starts) (is_behind rows starts)
  behind-all starts =
      record {
        has_first = λ p e. or_left (is_in starts p) _ e;
        closed = λ x y e m. or_right (is_in starts y) _ (least.0 x y e m);
        least = λ other first closed p e. by other first closed p (or_cases (is_in starts p) _ e);
      }
    where
      least : IsLeastClosed cites starts (is_in (ancestors rows starts))
      least = (closures-least rows starts sound).0

      by : (other : ℕ → Bool) → ((p : ℕ) → is_in starts p ≡ true → other p ≡ true) → ((x y : ℕ) → other x ≡ true → is_in (cites x) y ≡ true → other y ≡ true)
          → (p : ℕ) → (is_in starts p ≡ true) ⊎ (is_in (ancestors rows starts) p ≡ true) → other p ≡ true
      by other first closed p (inl e) = first p e
      by other first closed p (inr e) = least.1 other (λ x y k m. closed x y (has x (or_cases (is_in starts x) (other x) k)) m) p e
        where
          has : (x : ℕ) → (is_in starts x ≡ true) ⊎ (other x ≡ true) → other x ≡ true
          has x (inl k) = first x k
          has x (inr k) = k

  -- ---- the steps

  module _ (bounds : AreBounds rows) (starts known_starts : List ℕ) where
    abbrev Goes : BTreeSet RowByDepth → BTreeSet RowByDepth → List ℕ → List ℕ → Type 0
    Goes ahead known done done_known =
        IsWalk cites (depth_bound rows) (is_in starts) (is_in known_starts) (is_behind rows starts) (is_behind rows known_starts)
        (waits rows ahead) (waits rows known) (is_in done) (is_in done_known)

    last-of : (ahead known : BTreeSet RowByDepth) (r : RowByDepth) → r ≡ bounded rows r.number → IsLast ahead r → IsLast known r
        → (q : ℕ) → (waits rows ahead q || waits rows known q) ≡ true → is_under (depth_bound rows) r.number q ≡ false
    last-of ahead known r is last last_known q e =
        sym (less-is rows r.number q) ∙ ap (λ s. is_lt (row_cmp s (bounded rows q))) (sym is) ∙ by (or_cases (waits rows ahead q) (waits rows known q) e)
      where
        by : (waits rows ahead q ≡ true) ⊎ (waits rows known q ≡ true) → is_lt (row_cmp r (bounded rows q)) ≡ false
        by (inl k) = last (bounded rows q) k
        by (inr k) = last_known (bounded rows q) k

    pub step-looks : (ahead known : BTreeSet RowByDepth) (done done_known : List ℕ) (r : RowByDepth) → r ≡ bounded rows r.number → contains row_cmp ahead r ≡ true
        → IsLast ahead r → IsLast known r → (rest ahead_new : BTreeSet RowByDepth) (prevs done_new : List ℕ) → ((p : ℕ) → waits rows rest p ≡ (waits rows ahead p && not (r.number == p)))
        → prevs ≡ cites r.number → ((p : ℕ) → waits rows ahead_new p ≡ (waits rows rest p || (is_in prevs p && not (waits rows known p)))) → done_new ≡ done ++ r.number ∷ []
        → Goes ahead known done done_known → Goes ahead_new known done_new done_known
    step-looks ahead known done done_known r is here last last_known rest ahead_new prevs done_new leaves cited aheads looks walk =
        walk-looks cites (depth_bound rows) (is_in starts) (is_in known_starts) (is_behind rows starts) (is_behind rows known_starts) (behind-all starts) (behind-all known_starts)
        (λ x y m. (sound.prev x y m).1) bounds.falls (waits rows ahead) (waits rows known) (is_in done) (is_in done_known) walk r.number
        (last-of ahead known r is last last_known) (ap (contains row_cmp ahead) (sym is) ∙ here) (waits rows ahead_new) (is_in done_new)
        (λ p. aheads p ∙ ap (λ b. b || (is_in prevs p && not (waits rows known p))) (leaves p) ∙ ap (λ l. (waits rows ahead p && not (r.number == p)) || (is_in l p && not (waits rows known p))) cited)
        (λ p. ap (λ l. is_in l p) looks ∙ in-append_one done r.number p)

    pub step-leaves : (ahead known : BTreeSet RowByDepth) (done done_known : List ℕ) (r : RowByDepth) → r ≡ bounded rows r.number → contains row_cmp known r ≡ true
        → IsLast ahead r → IsLast known r → (rest ahead_new known_new : BTreeSet RowByDepth) (prevs done_new : List ℕ) → ((p : ℕ) → waits rows rest p ≡ (waits rows known p && not (r.number == p)))
        → prevs ≡ cites r.number → ((p : ℕ) → waits rows ahead_new p ≡ (waits rows ahead p && not (is_in prevs p)))
        → ((p : ℕ) → waits rows known_new p ≡ (waits rows rest p || is_in prevs p)) → done_new ≡ done_known ++ r.number ∷ []
        → Goes ahead known done done_known → Goes ahead_new known_new done done_new
    step-leaves ahead known done done_known r is here last last_known rest ahead_new known_new prevs done_new leaves cited aheads knows looks walk =
        walk-leaves cites (depth_bound rows) (is_in starts) (is_in known_starts) (is_behind rows starts) (is_behind rows known_starts) (behind-all starts) (behind-all known_starts)
        (λ x y m. (sound.prev x y m).1) bounds.falls (waits rows ahead) (waits rows known) (is_in done) (is_in done_known) walk r.number
        (last-of ahead known r is last last_known) (ap (contains row_cmp known) (sym is) ∙ here) (waits rows ahead_new) (waits rows known_new) (is_in done_new)
        (λ p. aheads p ∙ ap (λ l. waits rows ahead p && not (is_in l p)) cited)
        (λ p. knows p ∙ ap (λ b. b || is_in prevs p) (leaves p) ∙ ap (λ l. (waits rows known p && not (r.number == p)) || is_in l p) cited)
        (λ p. ap (λ l. is_in l p) looks ∙ in-append_one done_known r.number p)

-- ---- filters

both : (a b : Bool) → (a && b) ≡ true → (a ≡ true) × (b ≡ true)
both true true e = (refl, refl)
both true false e = absurd (cc e)
both false b e = absurd (cc e)

together : (a b : Bool) → a ≡ true → b ≡ true → (a && b) ≡ true
together true b e f = f
together false b e f = absurd (cc e)

one_test : (a b : Bool) → (a ≡ true → b ≡ true) → (b ≡ true → a ≡ true) → a ≡ b
one_test true b f g = sym (f refl)
one_test false true f g = g refl
one_test false false f g = refl

in-filter : (test : ℕ → Bool) (xs : List ℕ) (p : ℕ) → is_in (filter test xs) p ≡ (is_in xs p && test p)
in-filter test xs p =
    one_test (is_in (filter test xs) p) (is_in xs p && test p)
    (λ e. let parts = in_filter-parts test p xs (is_in-to p (filter test xs) e) in together (is_in xs p) (test p) (is_in-from p xs parts.0) parts.1)
    (λ e. let parts = both (is_in xs p) (test p) e in is_in-from p (filter test xs) (in_filter test p xs (is_in-to p xs parts.0) parts.1))

filter-both : (f g : ℕ → Bool) (xs : List ℕ) → filter g (filter f xs) ≡ filter (λ p. f p && g p) xs
filter-both f g [] = refl
filter-both f g (x ∷ xs) = by (f x) (filter-both f g xs)
  where
    by : (b : Bool) → filter g (filter f xs) ≡ filter (λ p. f p && g p) xs → filter g (cond b (x ∷ filter f xs) (filter f xs)) ≡ cond (b && g x) (x ∷ filter (λ p. f p && g p) xs) (filter (λ p. f p && g p) xs)
    by true e = ap (λ l. cond (g x) (x ∷ l) l) e
    by false e = e

-- ---- what is found

same-answer : (d b k s t : Bool) → (d ≡ true → b ≡ true) → (d ≡ true → k ≡ false) → (t ≡ true → b ≡ true → k ≡ false → d ≡ true) → (d && (s && t)) ≡ (((b && not k) && s) && t)
same-answer true b k s t f g h = sym (λ i. ((f refl i && not (g refl i)) && s) && t)
same-answer false true true s t f g h = refl
same-answer false true false s true f g h = absurd (cc (h refl refl refl))
same-answer false true false true false f g h = refl
same-answer false true false false false f g h = refl
same-answer false false k s t f g h = refl

module _ (rows : List Row) (sound : IsSound rows) (bounds : AreBounds rows) (starts known : List ℕ) (walk : HistoryWalk) (sought : Sought) (are : AreRows rows walk) (walks : Walks rows starts known walk)
    (depth : ℕ) (shallow : (r : RowByDepth) → contains row_cmp walk.ahead r ≡ true → r.depth < depth) (done found events : List ℕ) (is : done ≡ walk.done.items)
    (finds : found ≡ filter (λ p. is_sought rows sought p && is_as_deep rows depth p) done) (rises : Rises events) (same : (p : ℕ) → is_in events p ≡ is_in found p) where
  in-done : (p : ℕ) → is_in events p ≡ (is_in walk.done.items p && (is_sought rows sought p && is_as_deep rows depth p))
  in-done p =
      same p ∙ ap (λ l. is_in l p) finds ∙ in-filter (λ q. is_sought rows sought q && is_as_deep rows depth q) done p
      ∙ ap (λ l. is_in l p && (is_sought rows sought p && is_as_deep rows depth p)) is

  found-below : (p : ℕ) → is_in events p ≡ true → p < length rows
  found-below p e = are.done p (both (is_in walk.done.items p) _ (sym (in-done p) ∙ e)).0

  is-done : (p : ℕ) → p < length rows → is_as_deep rows depth p ≡ true → is_behind rows starts p ≡ true → is_behind rows known p ≡ false → is_in walk.done.items p ≡ true
  is-done p l t e n =
      let deep : depth ≤ depth_of (event rows p) = leb-true depth (depth_of (event rows p)) t in
      let own : depth_of (event rows p) ≤ depth_bound rows p = bounds.own p l in
      walk-ends (cites rows sound) (depth_bound rows) (is_in starts) (is_in known) (is_behind rows starts) (is_behind rows known) (behind-all rows sound starts) (behind-all rows sound known) bounds.falls
      (waits rows walk.ahead) (waits rows walk.known) (is_in walk.done.items) (is_in walk.done_known.items) walks depth (λ q k. shallow (bounded rows q) k) p (omega arith) e n

  found-is : events ≡ filter (is_as_deep rows depth) (sought_between rows starts known sought)
  found-is =
      sym (rising-filter 0 (length rows) events rises (λ y e. let l : y < length rows = found-below y e in (omega arith, omega arith)))
      ∙ same_tests (is_in events) (λ p. ((is_behind rows starts p && not (is_behind rows known p)) && is_sought rows sought p) && is_as_deep rows depth p) (places rows)
      (λ p m. let b = (range-parts 0 (length rows) p m).1 in in-done p ∙ same-answer (is_in walk.done.items p) (is_behind rows starts p) (is_behind rows known p) (is_sought rows sought p) (is_as_deep rows depth p)
      (λ e. walks.from p (or_left (is_in walk.done.items p) (waits rows walk.ahead p) e)) (walks.unknown p) (is-done p (omega (arith, b))))
      ∙ sym (filter-both (λ p. (is_behind rows starts p && not (is_behind rows known p)) && is_sought rows sought p) (is_as_deep rows depth) (places rows))

  all-deep : depth ≤ sought.min_depth → filter (is_as_deep rows depth) (sought_between rows starts known sought) ≡ sought_between rows starts known sought
  all-deep l =
      filter-all (is_as_deep rows depth) (sought_between rows starts known sought)
      (all-in (λ p. is_as_deep rows depth p ≡ true) (sought_between rows starts known sought)
      (λ p e. let passes = both (is_in (places rows) p) _ (sym (in-filter (λ q. (is_behind rows starts q && not (is_behind rows known q)) && is_sought rows sought q) (places rows) p) ∙ e) in
      let is = both (is_behind rows starts p && not (is_behind rows known p)) (is_sought rows sought p) passes.1 in
      let deep = both (not (contains nat_cmp sought.skipped p)) _ is.1 in
      let least : sought.min_depth ≤ depth_of (event rows p) = leb-true sought.min_depth (depth_of (event rows p)) (both (nat_le sought.min_depth (depth_of (event rows p))) _ deep.1).0 in
      le-leb depth (depth_of (event rows p)) (omega arith)))

  pub found-deepest : (most : ℕ) → (most ≤ length events) ⊎ (depth ≤ sought.min_depth) → take most (sorted (depth_falling rows) events) ≡ take most (sorted (depth_falling rows) (sought_between rows starts known sought))
  found-deepest most (inl l) =
      ap (λ xs. take most (sorted (depth_falling rows) xs)) found-is
      ∙ enough-deep rows depth most (sought_between rows starts known sought) (subst (λ xs. most ≤ length xs) found-is l)
  found-deepest most (inr e) = ap (λ xs. take most (sorted (depth_falling rows) xs)) (found-is ∙ all-deep e)
