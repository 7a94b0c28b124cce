-- The power order by ranks: rows that are passed have lesser ranks than events, and the least rank that is ready comes next.
use Rattle.std.proofs.Common.{◌≡◌, ℕ, zero, suc, ◌+◌, ◌-◌, ◌<◌, ◌≤◌, Bool, true, false, cond, not, ◌&&◌, ◌||◌, ◌==◌, ◌⊎◌, inl, inr, List, [], ◌∷◌, ◌++◌, map, filter, length, slice_index, slice_index_or, take, nat_le, nat_lt, IsTrue, refl, sym, ap, subst, ◌∙◌, arith, append_assoc, lt-ltb, ltb-true, eq-eqb, eqb-true}
use Rattle.std.specs.Ordering.{is_gt, is_eq, nat_cmp}
use Rattle.std.proofs.lemmas.List.{append-nil, length-append, map-append}
use Rattle.std.proofs.lemmas.List.Elements.{All-push, filter-append}
use Rattle.std.proofs.lemmas.List.FromFn.{length-range_with_len}
use Rattle.std.proofs.lemmas.Bool.{and_parts, cases_lt, le-leb, leb-true}
use Rattle.std.specs.List.{All, range_with_len}
use Rattle.std.specs.Prelude.{Vec}
use Rattle.std.specs.declared.alloc.Global.{Global}
use Rattle.std.proofs.Math.Seq.{take-append_seam}
use Rattle.mx_graph.specs.Edges.{cited}
use Rattle.mx_graph.specs.Record.{Row, is_in, event, auth_events}
use Rattle.mx_graph.specs.Graph.{auth_chain}
use Rattle.mx_graph.proofs.Closure.{all-in, is_in-from, is_in-to, or_cases, or_left, or_right, reached-is_least}
use Rattle.mx_graph.proofs.Members.{in_filter, in_filter-parts}
use Rattle.mx_orders.specs.PowerOrder.{power_cmp, power_order}
use Rattle.mx_orders.specs.Ranks.{cites, times, total_of}
use Rattle.mx_orders.proofs.Members.{In, filter-distinct, in_map, in_map-from}
use Rattle.mx_orders.proofs.Permutations.{cut, cut-cases, cut-distinct, cut-gone, cut-length, cut-within}
use Rattle.mx_orders.proofs.LeastOrder.{IsReady, IsNext, IsRest, lowest, lowest-ready}
use Rattle.mx_orders.proofs.CountLemmas.{at_place}
use Rattle.mx_orders.proofs.PowerOrderLaws.{before, power_order-next}
use Rattle.mx_orders.proofs.FollowLemmas.{cited-at}
use Rattle.mx_orders.proofs.RankLemmas.{ranks, at_most, total_of-ranks, in_at, distinct-at, distinct-map, in_ranks, ranks-below, distinct-ranks}
use Rattle.mx_orders.proofs.PassingLemmas.{IsPassing, of_events}
use Rattle.mx_orders.proofs.ReadyLemmas.{total, IsWaiting, ready-follows_none, ready-from, taken, rest}

-- ---- the order

-- for each rank, those whose events cite its event
abbrev pub Follow : List Row → List ℕ → (ℕ → List ℕ) → Type 0
Follow rows xs followers = (u p : ℕ) → u < length xs → is_in (followers u) p ≡ (nat_lt p (length xs) && cites rows xs u p)

-- the events so far, and the order of those that are left, are the order of all
pub record IsUnderway (rows : List Row) (xs : List ℕ) (first : ℕ) (followers : ℕ → List ℕ) (awaited : ℕ → ℕ) (ready : ℕ → Bool) (done all : List ℕ) : Type 0 where
  pub left : List ℕ
  pub waiting : IsWaiting followers left awaited ready
  pub below : (p : ℕ) → In p left → p < length xs
  pub done_below : All (λ p. p < length xs) done
  pub so_far : map (slice_index xs) (of_events first done) ++ power_order rows (map (slice_index xs) (of_events first left)) ≡ all
  pub count : length done + length left ≡ length xs

-- a rank that is ready is one of the list
rank-below : (rows : List Row) (xs : List ℕ) (first : ℕ) (followers : ℕ → List ℕ) (awaited : ℕ → ℕ) (ready : ℕ → Bool) (done all : List ℕ) → IsUnderway rows xs first followers awaited ready done all → (r : ℕ) → ready r ≡ true → r < length xs
rank-below rows xs first followers awaited ready done all d r here = d.below r (d.waiting.free r here).0

filter-cut : (test : ℕ → Bool) (x : ℕ) (xs : List ℕ) (h : In x xs) → test x ≡ false → filter test (cut x xs h) ≡ filter test xs
filter-cut test x [] h e = absurd h
filter-cut test x (y ∷ ys) (inl k) e = sym (ap (λ b. cond b (y ∷ filter test ys) (filter test ys)) (ap test (sym k) ∙ e))
filter-cut test x (y ∷ ys) (inr h) e = ap (λ zs. cond (test y) (y ∷ zs) zs) (filter-cut test x ys h e)

is_false : (b : Bool) → (b ≡ true → ⊥) → b ≡ false
is_false true h = absurd (h refl)
is_false false h = refl

not_true : (b : Bool) → b ≡ false → not b ≡ true
not_true true e = absurd (cc e)
not_true false e = refl

from_not : (b : Bool) → not b ≡ true → b ≡ true → ⊥
from_not true e k = absurd (cc e)
from_not false e k = absurd (cc k)

both : (a b : Bool) → a ≡ true → b ≡ true → (a && b) ≡ true
both a b e k = λ i. e i && k i

module _ (rows : List Row) (xs : List ℕ) (first : ℕ) (followers : ℕ → List ℕ) (s : IsPassing rows xs first) (follow : Follow rows xs followers) where
  abbrev at : ℕ → ℕ
  at u = slice_index xs u

  abbrev edges : ℕ → List ℕ
  edges p = auth_events rows (event rows p)

  -- what stands in an auth chain has what it cites there
  chain-cited : (x y z : ℕ) → is_in (edges x) y ≡ true → (x ≡ z) ⊎ (before rows x z ≡ true) → before rows y z ≡ true
  unfolding auth_chain
  chain-cited x y z e h = (reached-is_least rows edges (z ∷ []) s.sound.auth).0 x y (by h) e
    where
      by : (x ≡ z) ⊎ (before rows x z ≡ true) → (is_in (z ∷ []) x || before rows x z) ≡ true
      by (inl k) = or_left (is_in (z ∷ []) x) (before rows x z) (is_in-from x (z ∷ []) (inl k))
      by (inr k) = or_right (is_in (z ∷ []) x) (before rows x z) k

  module _ (left : List ℕ) (awaited : ℕ → ℕ) (ready : ℕ → Bool) (w : IsWaiting followers left awaited ready) (below : (p : ℕ) → In p left → p < length xs) where
    follows : (u p : ℕ) → In u left → p < length xs → is_in (followers u) p ≡ is_in (edges (at p)) (at u)
    follows u p m l = follow u p (below u m) ∙ ap (λ b. b && cites rows xs u p) (lt-ltb p (length xs) l)

    -- ---- no row that is left stands in the auth chain of one that follows none of these

    abbrev is_done : ℕ → Bool
    is_done p = not (is_in (map at left) p) && (nat_lt p s.least || is_in xs p)

    -- before all rows, or of a rank that follows none that is left
    abbrev IsFree : ℕ → Type 0
    IsFree x = (x < s.least) ⊎ ((p : ℕ) × (p < length xs) × (at p ≡ x) × ((u : ℕ) → In u left → is_in (followers u) p ≡ false))

    free-done : (x z : ℕ) → IsFree x → is_in (edges x) z ≡ true → is_done z ≡ true
    free-done x z f e = both _ _ (not_true _ (is_false _ (λ k. gone f (in_map-from at z left (is_in-to z (map at left) k))))) (there f (cases_lt z s.least))
      where
        lower : z < x
        lower = (s.sound.auth x z e).1

        gone : IsFree x → (u : ℕ) × In u left × (z ≡ at u) → ⊥
        gone (inl l) (u, m, k) =
            let n : s.least ≤ at u = s.low (at u) (in_at xs u (below u m)) in
            let o = lower in
            absurd (omega (arith, l, n, o, k))
        gone (inr (p, l, g, none)) (u, m, k) =
            absurd (cc (sym (none u m) ∙ follows u p m l ∙ ap (λ y. is_in (edges y) (at u)) g ∙ ap (is_in (edges x)) (sym k) ∙ e))

        there : IsFree x → (z < s.least) ⊎ (s.least ≤ z) → (nat_lt z s.least || is_in xs z) ≡ true
        there h (inl l) = or_left (nat_lt z s.least) (is_in xs z) (lt-ltb z s.least l)
        there (inl k) (inr l) = let o = lower in absurd (omega (arith, k, l, o))
        there (inr (p, m, g, none)) (inr l) = or_right (nat_lt z s.least) (is_in xs z) (is_in-from z xs (s.closed x z (subst (λ y. In y xs) g (in_at xs p m)) e l))

    done-free : (x : ℕ) → is_done x ≡ true → IsFree x
    done-free x e = by (or_cases (nat_lt x s.least) (is_in xs x) k.1)
      where
        k : (not (is_in (map at left) x) ≡ true) × ((nat_lt x s.least || is_in xs x) ≡ true)
        k = and_parts _ _ e

        here : (p : ℕ) × (p < length xs) × ((d : ℕ) → slice_index_or xs p d ≡ x) → IsFree x
        here (p, l, g) = inr (p, l, g 0, λ u m. is_false _ (λ f. from_not _ k.0 (is_in-from x (map at left) (subst (λ y. In y (map at left)) (g 0) (in_map at p left (w.closed u p m f))))))

        by : (nat_lt x s.least ≡ true) ⊎ (is_in xs x ≡ true) → IsFree x
        by (inl l) = inl (ltb-true x s.least l)
        by (inr m) = here (at_place x xs (is_in-to x xs m))

    chain-done : (p z : ℕ) → p < length xs → ((u : ℕ) → In u left → is_in (followers u) p ≡ false) → before rows z (at p) ≡ true → is_done z ≡ true
    unfolding auth_chain
    chain-done p z l none e = (reached-is_least rows edges (at p ∷ []) s.sound.auth).1 is_done closed z e
      where
        from : (x : ℕ) → (is_in (at p ∷ []) x ≡ true) ⊎ (is_done x ≡ true) → IsFree x
        from x (inl h) = start (is_in-to x (at p ∷ []) h)
          where
            start : In x (at p ∷ []) → IsFree x
            start (inl k) = inr (p, l, sym k, none)
            start (inr k) = absurd k
        from x (inr h) = done-free x h

        closed : (x y : ℕ) → IsTrue (is_in (at p ∷ []) x || is_done x) → IsTrue (is_in (edges x) y) → IsTrue (is_done y)
        closed x y h k = free-done x y (from x (or_cases (is_in (at p ∷ []) x) (is_done x) h)) k

    -- no row that is left stands in the auth chain of one that is ready
    ready-free : (r u : ℕ) → ready r ≡ true → In u left → before rows (at u) (at r) ≡ false
    ready-free r u here m =
        is_false _ (λ e. from_not _ (and_parts _ _ (chain-done r (at u) (below r (w.free r here).0) (λ v n. ready-follows_none followers left awaited ready w r v here n) e)).0
        (is_in-from (at u) (map at left) (in_map at u left m)))

    -- ---- an event that no event waits for is ready, where no row that is passed is

    module _ (none : (u : ℕ) → ready u ≡ true → first ≤ u) (q : ℕ) (m : In q left) (free : (u : ℕ) → In u left → first ≤ u → before rows (at u) (at q) ≡ false) where
      no_row : (n u : ℕ) → at u < n → In u left → before rows (at u) (at q) ≡ true → ⊥
      no_row zero u l h e = absurd (omega (arith, l))
      no_row (suc n) u l h e = stops (λ v m c. no_row n v (lower v c) m (chain-cited (at u) (at v) (at q) c (inr e)))
        where
          lower : (v : ℕ) → is_in (edges (at u)) (at v) ≡ true → at v < n
          lower v c = let k : at v < at u = (s.sound.auth (at u) (at v) c).1 in omega (arith, k, l)

          stops : ((v : ℕ) → In v left → is_in (edges (at u)) (at v) ≡ true → ⊥) → ⊥
          stops later = by (cases_lt u first)
            where
              by : (u < first) ⊎ (first ≤ u) → ⊥
              by (inl k) =
                  let z : first ≤ u = none u (ready-from followers left awaited ready w u h (λ v m. is_false _ (λ f. later v m (sym (follows v u m (below u h)) ∙ f)))) in
                  absurd (omega (arith, k, z))
              by (inr k) = absurd (cc (sym e ∙ free u h k))

      event-ready : ready q ≡ true
      event-ready = ready-from followers left awaited ready w q m (λ u n. is_false _ (λ f.
          no_row (suc (at u)) u (omega arith) n (chain-cited (at q) (at u) (at q) (sym (follows u q n (below q m)) ∙ f) (inl refl))))

    -- where none is ready, none is left
    none_left : ((q : ℕ) → ready q ≡ false) → left ≡ []
    none_left none = by left refl
      where
        lower : (u p : ℕ) → cites rows xs u p ≡ true → at u < at p
        lower u p e = (s.sound.auth (at p) (at u) e).1

        by : (us : List ℕ) → left ≡ us → left ≡ []
        by [] e = e
        by (v ∷ vs) e =
            let m = lowest (cites rows xs) at lower v vs in
            let r : IsReady (cites rows xs) (v ∷ vs) m.0 = lowest-ready (cites rows xs) at lower m.0 (v ∷ vs) m.1 m.2 in
            let z : IsReady (cites rows xs) left m.0 = subst (λ us. IsReady (cites rows xs) us m.0) (sym e) r in
            absurd (cc (sym (none m.0) ∙ ready-from followers left awaited ready w m.0 z.member (λ u n. follows u m.0 n (below m.0 z.member) ∙ z.free u n)))

    -- ---- the least rank that is ready

    module _ (r : ℕ) (here : ready r ≡ true) (least : (q : ℕ) → ready q ≡ true → is_gt (nat_cmp r q) ≡ false) (late : first ≤ r) where
      abbrev pub member : In r left
      member = (w.free r here).0

      abbrev rest_left : List ℕ
      rest_left = cut r left member

      part : (u : ℕ) (us : List ℕ) → In u us → first ≤ u → In u (of_events first us)
      part u us m l = in_filter (nat_le first) u us m (le-leb first u l)

      parts : (u : ℕ) (us : List ℕ) → In u (of_events first us) → In u us × (first ≤ u)
      parts u us m = let k = in_filter-parts (nat_le first) u us m in (k.0, leb-true first u k.1)

      next : IsNext (before rows) (power_cmp rows) (map at (of_events first left)) (at r)
      next = record {
        ready = record { member = in_map at r (of_events first left) (part r left member late); free = λ y k. free y (in_map-from at y (of_events first left) k) };
        first = λ y k. first_of y k (in_map-from at y (of_events first left) k.member);
      }
        where
          free : (y : ℕ) → (u : ℕ) × In u (of_events first left) × (y ≡ at u) → before rows y (at r) ≡ false
          free y (u, m, e) = subst (λ z. before rows z (at r) ≡ false) (sym e) (ready-free r u here (parts u left m).0)

          none : (u : ℕ) → ready u ≡ true → first ≤ u
          none u k = let l = at_most r u (least u k) in omega (arith, l, late)

          first_of : (y : ℕ) → IsReady (before rows) (map at (of_events first left)) y → (u : ℕ) × In u (of_events first left) × (y ≡ at u) → is_gt (power_cmp rows (at r) y) ≡ false
          first_of y k (q, m, e) =
              let n = parts q left m in
              let i = event-ready none q n.0 (λ u h l. subst (λ z. before rows (at u) z ≡ false) e (k.free (at u) (in_map at u (of_events first left) (part u left h l)))) in
              subst (λ z. is_gt (power_cmp rows (at r) z) ≡ false) (sym e) (s.rises r q late (at_most r q (least q i)) (below q n.0))

      known : (z : ℕ) → (u : ℕ) × In u (of_events first left) × (z ≡ at u) → z < length rows
      known z (u, m, e) = s.known z (subst (λ y. In y xs) (sym e) (in_at xs u (below u (parts u left m).0)))

      without : IsRest (map at (of_events first left)) (at r) (map at (of_events first rest_left))
      without = record {
        distinct = distinct-map xs (of_events first rest_left) s.distinct (λ u m. below u (cut-within r left member u (parts u rest_left m).0)) (filter-distinct (nat_le first) rest_left (cut-distinct r left member w.distinct));
        within = λ z k. within z (in_map-from at z (of_events first rest_left) k);
        gone = λ k. gone (in_map-from at (at r) (of_events first rest_left) k);
        whole = λ z k. whole z (in_map-from at z (of_events first left) k);
      }
        where
          within : (z : ℕ) → (u : ℕ) × In u (of_events first rest_left) × (z ≡ at u) → In z (map at (of_events first left))
          within z (u, m, e) =
              let k = parts u rest_left m in
              subst (λ y. In y (map at (of_events first left))) (sym e) (in_map at u (of_events first left) (part u left (cut-within r left member u k.0) k.1))

          gone : (u : ℕ) × In u (of_events first rest_left) × (at r ≡ at u) → ⊥
          gone (u, m, e) =
              let k = parts u rest_left m in
              cut-gone r left member w.distinct
              (subst (λ y. In y rest_left) (sym (distinct-at xs r u s.distinct (below r member) (below u (cut-within r left member u k.0)) e)) k.0)

          whole : (z : ℕ) → (u : ℕ) × In u (of_events first left) × (z ≡ at u) → (z ≡ at r) ⊎ In z (map at (of_events first rest_left))
          whole z (u, m, e) = by (parts u left m).1 (cut-cases r left member u (parts u left m).0)
            where
              by : first ≤ u → (u ≡ r) ⊎ In u rest_left → (z ≡ at r) ⊎ In z (map at (of_events first rest_left))
              by l (inl k) = inl (e ∙ ap at k)
              by l (inr k) = inr (subst (λ y. In y (map at (of_events first rest_left))) (sym e) (in_map at u (of_events first rest_left) (part u rest_left k l)))

      order-step : power_order rows (map at (of_events first left)) ≡ at r ∷ power_order rows (map at (of_events first rest_left))
      order-step =
          power_order-next rows s.sound (map at (of_events first left)) (map at (of_events first rest_left)) (at r) (λ z k. known z (in_map-from at z (of_events first left) k))
          (distinct-map xs (of_events first left) s.distinct (λ u m. below u (parts u left m).0) (filter-distinct (nat_le first) left w.distinct)) next without

  -- ---- the loop

  followers-below : (r : ℕ) → r < length xs → (fs : List ℕ) → fs ≡ followers r → (n : ℕ) → n ≡ length xs → All (λ p. p < n) fs
  followers-below r l fs e n m = all-in (λ p. p < n) fs (λ p k. below p (ltb-true p (length xs) ((and_parts _ _ (sym (follow r p l) ∙ ap (λ ys. is_in ys p) (sym e) ∙ k)).0)))
    where
      below : (p : ℕ) → p < length xs → p < n
      below p h = omega (arith, h, m)

  begins : (awaited : ℕ → ℕ) (ready : ℕ → Bool) (done all : List ℕ) → done ≡ [] → ((p : ℕ) → awaited p ≡ total followers (ranks xs) p) → ((p : ℕ) → ready p ≡ (nat_lt p (length xs) && (awaited p == 0)))
      → power_order rows (map at (of_events first (ranks xs))) ≡ all → IsUnderway rows xs first followers awaited ready done all
  begins awaited ready done all empty counted free order = record {
    left = ranks xs;
    waiting = record {
      distinct = distinct-ranks xs;
      closed = λ u p m e. in_ranks xs p (ltb-true p (length xs) ((and_parts _ _ (sym (follow u p (ranks-below xs u m)) ∙ e)).0));
      counted = counted;
      free = λ p e. let k = and_parts _ _ (sym (free p) ∙ e) in (in_ranks xs p (ltb-true p (length xs) k.0), eqb-true (awaited p) 0 k.1);
      waits = λ p m e. free p ∙ (λ i. lt-ltb p (length xs) (ranks-below xs p m) i && eq-eqb (awaited p) 0 e i);
    };
    below = λ p m. ranks-below xs p m;
    done_below = subst (All (λ p. p < length xs)) (sym empty) (λ k d h. absurd (omega (arith, h)));
    so_far = ap (λ us. map at (of_events first us) ++ power_order rows (map at (of_events first (ranks xs)))) empty ∙ order;
    count = count done empty;
  }
    where
      count : (done : List ℕ) → done ≡ [] → length done + length (ranks xs) ≡ length xs
      count done e = let l : length done ≡ 0 = ap length e in let n = length-range_with_len 0 (length xs) in omega (arith, l, n)

  goes_on : (awaited fewer : ℕ → ℕ) (ready mid later : ℕ → Bool) (done more all : List ℕ) (r : ℕ) → IsUnderway rows xs first followers awaited ready done all → ready r ≡ true → ((q : ℕ) → ready q ≡ true → is_gt (nat_cmp r q) ≡ false)
      → ((q : ℕ) → mid q ≡ cond (is_eq (nat_cmp r q)) false (ready q)) → ((p : ℕ) → fewer p ≡ awaited p - times p (followers r)) → ((p : ℕ) → later p ≡ (mid p || (is_in (followers r) p && (fewer p == 0)))) → more ≡ done ++ r ∷ []
      → IsUnderway rows xs first followers fewer later more all
  goes_on awaited fewer ready mid later done more all r d here least popped lowered freed e = record {
    left = rest_of;
    waiting = taken followers d.left awaited ready d.waiting r here mid later fewer popped lowered freed;
    below = λ p m. d.below p (cut-within r d.left h p m);
    done_below = subst (All (λ p. p < length xs)) (sym e) (All-push (λ p. p < length xs) done r d.done_below (d.below r h));
    so_far = by (nat_le first r) refl;
    count = count (cut-length r d.left h) d.count (ap length e ∙ length-append done (r ∷ []));
  }
    where
      h : In r d.left
      h = (d.waiting.free r here).0

      rest_of : List ℕ
      rest_of = cut r d.left h

      count : suc (length rest_of) ≡ length d.left → length done + length d.left ≡ length xs → length more ≡ length done + 1 → length more + length rest_of ≡ length xs
      count a b c = omega arith

      pushed : (b : Bool) → nat_le first r ≡ b → map at (of_events first more) ≡ map at (of_events first done) ++ cond b (at r ∷ []) []
      pushed b k =
          ap (λ us. map at (of_events first us)) e ∙ ap (map at) (filter-append (nat_le first) done (r ∷ [])) ∙ map-append at (of_events first done) (of_events first (r ∷ []))
          ∙ ap (λ us. map at (of_events first done) ++ map at us) (ap (λ c. cond c (r ∷ []) []) k) ∙ one b
        where
          one : (b : Bool) → map at (of_events first done) ++ map at (cond b (r ∷ []) []) ≡ map at (of_events first done) ++ cond b (at r ∷ []) []
          one true = refl
          one false = refl

      by : (b : Bool) → nat_le first r ≡ b → map at (of_events first more) ++ power_order rows (map at (of_events first rest_of)) ≡ all
      by true k =
          ap (λ us. us ++ power_order rows (map at (of_events first rest_of))) (pushed true k) ∙ append_assoc (map at (of_events first done)) (at r ∷ []) (power_order rows (map at (of_events first rest_of)))
          ∙ ap (λ us. map at (of_events first done) ++ us) (sym (order-step d.left awaited ready d.waiting d.below r here least (leb-true first r k))) ∙ d.so_far
      by false k =
          (λ i. (pushed false k ∙ append-nil (map at (of_events first done))) i ++ power_order rows (map at (filter-cut (nat_le first) r d.left h k i))) ∙ d.so_far

  ends : (awaited : ℕ → ℕ) (ready : ℕ → Bool) (done all : List ℕ) → IsUnderway rows xs first followers awaited ready done all → ((q : ℕ) → ready q ≡ false) → map at (of_events first done) ≡ all
  unfolding power_order
  ends awaited ready done all d none =
      sym (append-nil (map at (of_events first done))) ∙ ap (λ us. map at (of_events first done) ++ power_order rows (map at (of_events first us))) (sym (none_left d.left awaited ready d.waiting d.below none)) ∙ d.so_far

-- ---- the loop, by its lists

counted_by_rank : (xs awaited : List ℕ) (lists : List (Vec ℕ Global)) → length lists ≡ length xs → ((p : ℕ) → slice_index awaited p ≡ total_of lists p) → (p : ℕ) → slice_index awaited p ≡ total (cited lists) (ranks xs) p
counted_by_rank xs awaited lists e h p = h p ∙ total_of-ranks lists p ∙ ap (λ n. total (cited lists) (range_with_len 0 n) p) e

ready_by_rank : (xs awaited given : List ℕ) (ready : ℕ → Bool) → given ≡ awaited → length awaited ≡ length xs → ((p : ℕ) → ready p ≡ (nat_lt p (length given) && (slice_index given p == 0))) → (p : ℕ) → ready p ≡ (nat_lt p (length xs) && (slice_index awaited p == 0))
ready_by_rank xs awaited given ready e l h p = h p ∙ ap (λ ys. nat_lt p (length ys) && (slice_index ys p == 0)) e ∙ ap (λ n. nat_lt p n && (slice_index awaited p == 0)) l

-- a slice that was lent and came back with its length
refilled : (n : ℕ) (new rest : List ℕ) → n ≡ length new → take n (new ++ rest) ≡ new
refilled n new rest e = ap (λ k. take k (new ++ rest)) e ∙ take-append_seam new rest

next_underway : (rows : List Row) (xs : List ℕ) (first : ℕ) (lists : List (Vec ℕ Global)) → IsPassing rows xs first → Follow rows xs (cited lists) → (awaited given new kept : List ℕ) (ready mid later : ℕ → Bool) (done more all : List ℕ) (r : ℕ) (fs : List ℕ)
    → IsUnderway rows xs first (cited lists) (slice_index awaited) ready done all → ready r ≡ true → ((q : ℕ) → ready q ≡ true → is_gt (nat_cmp r q) ≡ false) → ((q : ℕ) → mid q ≡ cond (is_eq (nat_cmp r q)) false (ready q))
    → given ≡ awaited → fs ≡ cited lists r → ((p : ℕ) → slice_index new p ≡ slice_index given p - times p fs) → ((p : ℕ) → later p ≡ (mid p || (is_in fs p && (slice_index new p == 0)))) → kept ≡ new → more ≡ done ++ r ∷ []
    → IsUnderway rows xs first (cited lists) (slice_index kept) later more all
next_underway rows xs first lists s follow awaited given new kept ready mid later done more all r fs d here least popped e f lowered freed k m =
    subst (λ ys. IsUnderway rows xs first (cited lists) (slice_index ys) later more all) (sym k)
    (goes_on rows xs first (cited lists) s follow (slice_index awaited) (slice_index new) ready mid later done more all r d here least popped
    (λ p. lowered p ∙ (λ i. slice_index (e i) p - times p (f i)))
    (λ p. freed p ∙ (λ i. mid p || (is_in (f i) p && (slice_index new p == 0))))
    m)

-- the state of the loop
pub record IsTaking (rows : List Row) (xs : List ℕ) (first : ℕ) (lists : List (Vec ℕ Global)) (awaited : List ℕ) (ready : ℕ → Bool) (done all : List ℕ) : Type 0 where
  passing : IsPassing rows xs first
  pub follow : Follow rows xs (cited lists)
  pub followed : length lists ≡ length xs
  pub len : length awaited ≡ length xs
  pub underway : IsUnderway rows xs first (cited lists) (slice_index awaited) ready done all

pub taking-begins : (rows : List Row) (xs given : List ℕ) (first : ℕ) (lists : List (Vec ℕ Global)) (awaited handed : List ℕ) (ready : ℕ → Bool) (done all : List ℕ) → IsPassing rows xs first → power_order rows (map (slice_index xs) (of_events first (ranks xs))) ≡ all → given ≡ xs → length lists ≡ length given → Follow rows given (cited lists)
    → length awaited ≡ length given → ((p : ℕ) → slice_index awaited p ≡ total_of lists p) → handed ≡ awaited → ((p : ℕ) → ready p ≡ (nat_lt p (length handed) && (slice_index handed p == 0))) → done ≡ [] → IsTaking rows xs first lists awaited ready done all
taking-begins rows xs given first lists awaited handed ready done all s order e followed follow len counted h free empty =
    let f = subst (λ ys. Follow rows ys (cited lists)) e follow in
    let m = followed ∙ ap length e in
    let l = len ∙ ap length e in
    record {
      passing = s;
      follow = f;
      followed = m;
      len = l;
      underway = begins rows xs first (cited lists) s f (slice_index awaited) ready done all empty (counted_by_rank xs awaited lists m counted) (ready_by_rank xs awaited handed ready h l free) order;
    }

module _ (rows : List Row) (xs : List ℕ) (first : ℕ) (lists : List (Vec ℕ Global)) (awaited : List ℕ) (ready : ℕ → Bool) (done all : List ℕ) (t : IsTaking rows xs first lists awaited ready done all) where
  module _ (r : ℕ) (here : ready r ≡ true) where
    pub rank-of : r < length xs
    rank-of = rank-below rows xs first (cited lists) (slice_index awaited) ready done all t.underway r here

    pub rank-followed : r < length lists
    rank-followed = let l = rank-of in let e = t.followed in omega (arith, l, e)

    module _ (v : Vec ℕ Global) (given fs : List ℕ) (lent : given ≡ awaited) (at_rank : v ≡ slice_index_or lists r v) (items : fs ≡ v.items) where
      its : fs ≡ cited lists r
      its = items ∙ sym (cited-at lists r v rank-followed at_rank)

      pub followers-known : All (λ p. p < length given) fs
      followers-known = followers-below rows xs first (cited lists) t.passing t.follow r rank-of fs its (length given) (ap length lent ∙ t.len)

      pub taking-goes : (n : ℕ) (new rest : List ℕ) (mid later : ℕ → Bool) (more : List ℕ) → n ≡ length awaited → length new ≡ length given → ((q : ℕ) → ready q ≡ true → is_gt (nat_cmp r q) ≡ false) → ((q : ℕ) → mid q ≡ cond (is_eq (nat_cmp r q)) false (ready q))
          → ((p : ℕ) → slice_index new p ≡ slice_index given p - times p fs) → ((p : ℕ) → later p ≡ (mid p || (is_in fs p && (slice_index new p == 0)))) → more ≡ done ++ r ∷ [] → IsTaking rows xs first lists (take n (new ++ rest)) later more all
      taking-goes n new rest mid later more size kept least popped lowered freed m =
          let k = refilled n new rest (size ∙ ap length (sym lent) ∙ sym kept) in
          record {
            passing = t.passing;
            follow = t.follow;
            followed = t.followed;
            len = ap length k ∙ kept ∙ ap length lent ∙ t.len;
            underway =
                next_underway rows xs first lists t.passing t.follow awaited given new (take n (new ++ rest)) ready mid later done more all r fs t.underway here least popped lent its lowered freed k m;
          }

  pub taking-ends : ((q : ℕ) → ready q ≡ false) → map (slice_index xs) (of_events first done) ≡ all
  taking-ends none = ends rows xs first (cited lists) t.passing t.follow (slice_index awaited) ready done all t.underway none
