-- Steps of the loops that find which ranks follow which.
use Rattle.std.proofs.Common.{◌≡◌, ℕ, zero, suc, ◌+◌, ◌==◌, ◌≤◌, ◌<◌, ◌⊎◌, Bool, true, false, cond, ◌||◌, ◌&&◌, if◌then◌else◌, inl, inr, List, [], ◌∷◌, ◌++◌, length, take, set, slice_index, slice_index_or, nat_lt, refl, sym, ap, subst, ◌∙◌, arith, eq-eqb, eqb-true, lt-ltb, ltb-true}
use Rattle.std.specs.Prelude.{Vec, Option, Some, None, IfSome}
use Rattle.std.specs.Ordering.{nat_cmp, is_eq}
use Rattle.std.specs.declared.alloc.Global.{Global}
use Rattle.std.proofs.lemmas.List.Sums.{sum_by-set, sum_by_push}
use Rattle.std.proofs.lemmas.List.{length-append, length-set, take_more, get_or_append_left}
use Rattle.std.proofs.lemmas.Bool.{cases_lt}
use Rattle.std.proofs.Math.ListN.{get_or-eq_default}
use Rattle.std.proofs.Math.Seq.{get_or-append_seam}
use Rattle.std.proofs.Math.Nat.{eq-or-lt_of_le}
use Rattle.mx_redact.specs.Fields.{is_some_and}
use Rattle.mx_graph.specs.Edges.{cited}
use Rattle.mx_graph.specs.Record.{Row, is_in, event, auth_events}
use Rattle.mx_graph.proofs.WalkLemmas.{equal_to, equal_from}
use Rattle.mx_orders.proofs.Members.{Distinct}
use Rattle.mx_orders.proofs.RankLemmas.{at_any, distinct-at}
use Rattle.mx_orders.specs.Ranks.{IsRanked, cites, leads, times, total_of}

-- ---- lists of followers

abbrev Lists : Type 0
Lists = List (Vec ℕ Global)

cited-past : (lists : Lists) (v : Vec ℕ Global) (u : ℕ) → v.items ≡ [] → ((u : ℕ) → cited lists u ≡ []) → cited (lists ++ v ∷ []) u ≡ []
cited-past [] v zero e h = e
cited-past [] v (suc u) e h = refl
cited-past (w ∷ ws) v zero e h = h 0
cited-past (w ∷ ws) v (suc u) e h = cited-past ws v u e (λ i. h (suc i))

-- one more list, an empty one
pub record AreEmpty (lists : Lists) (count : ℕ) : Type 0 where
  pub len : length lists ≡ count
  pub empty : (u : ℕ) → cited lists u ≡ []
  pub none : (p : ℕ) → total_of lists p ≡ 0

pub one_more_empty : (lists more : Lists) (v : Vec ℕ Global) (count : ℕ) → AreEmpty lists count → v.items ≡ [] → more ≡ lists ++ v ∷ [] → AreEmpty more (count + 1)
one_more_empty lists more v count a e m = subst (λ ls. AreEmpty ls (count + 1)) (sym m) (record {
  len = let l = length-append lists (v ∷ []) in let k = a.len in omega (arith, l, k);
  empty = λ u. cited-past lists v u e a.empty;
  none = λ p. none p (sum_by_push (λ (w : Vec ℕ Global). times p w.items) lists v) (a.none p) (ap (times p) e);
})
  where
    none : (p : ℕ) → total_of (lists ++ v ∷ []) p ≡ total_of lists p + times p v.items → total_of lists p ≡ 0 → times p v.items ≡ 0 → total_of (lists ++ v ∷ []) p ≡ 0
    none p a b c = omega (arith, a, b, c)

-- ---- places

-- the places of the first ranks
pub record AreRanked (xs : List ℕ) (count : ℕ) (found : ℕ → Option ℕ) : Type 0 where
  pub has : (u : ℕ) → u < count → found (slice_index xs u) ≡ Some u
  pub at : (x u : ℕ) → found x ≡ Some u → (u < count) × (slice_index xs u ≡ x)

pub one_more_ranked : (xs : List ℕ) (count x : ℕ) (found more : ℕ → Option ℕ) → Distinct xs → count < length xs → x ≡ slice_index xs count → AreRanked xs count found → ((q : ℕ) → more q ≡ cond (is_eq (nat_cmp x q)) (Some count) (found q))
    → AreRanked xs (count + 1) more
one_more_ranked xs count x found more d l e r m = record { has = λ u h. has u (split u h); at = λ y u k. at y u k (is_eq (nat_cmp x y)) refl }
  where
    split : (u : ℕ) → u < count + 1 → (u ≡ count) ⊎ (u < count)
    split u h = let m : u ≤ count = omega (arith, h) in eq-or-lt_of_le m

    apart : (u : ℕ) → u < count → is_eq (nat_cmp x (slice_index xs u)) ≡ false
    apart u h = by (is_eq (nat_cmp x (slice_index xs u))) refl
      where
        by : (b : Bool) → is_eq (nat_cmp x (slice_index xs u)) ≡ b → b ≡ false
        by true k = absurd (no (distinct-at xs count u d l below (sym e ∙ equal_to x (slice_index xs u) k)) h)
          where
            below : u < length xs
            below = omega arith

            no : count ≡ u → u < count → ⊥
            no a b = omega (arith, a, b)
        by false k = refl

    has : (u : ℕ) → (u ≡ count) ⊎ (u < count) → more (slice_index xs u) ≡ Some u
    has u (inl k) =
        m (slice_index xs u) ∙ ap (λ b. cond b (Some count) (found (slice_index xs u))) (subst (λ y. is_eq (nat_cmp x y) ≡ true) (e ∙ ap (slice_index xs) (sym k)) (equal_from x)) ∙ ap Some (sym k)
    has u (inr h) = m (slice_index xs u) ∙ ap (λ b. cond b (Some count) (found (slice_index xs u))) (apart u h) ∙ r.has u h

    at : (y u : ℕ) → more y ≡ Some u → (b : Bool) → is_eq (nat_cmp x y) ≡ b → (u < count + 1) × (slice_index xs u ≡ y)
    at y u k true f =
        let same : count ≡ u = cc (sym k ∙ m y ∙ ap (λ b. cond b (Some count) (found y)) f) in
        (above same, ap (slice_index xs) (sym same) ∙ sym e ∙ equal_to x y f)
      where
        above : count ≡ u → u < count + 1
        above g = omega (arith, g)
    at y u k false f =
        let old = r.at y u (sym (ap (λ b. cond b (Some count) (found y)) f) ∙ sym (m y) ∙ k) in
        (further old.0, old.1)
      where
        further : u < count → u < count + 1
        further g = omega (arith, g)

pub all_ranked : (xs : List ℕ) (count : ℕ) (found : ℕ → Option ℕ) → length xs ≤ count → count ≤ length xs → AreRanked xs count found → IsRanked xs found
all_ranked xs count found l m r = subst (λ n. AreRanked xs n found → IsRanked xs found) same (λ k. record { has = k.has; at = k.at }) r
  where
    same : length xs ≡ count
    same = omega arith

-- the ranks that are found for a chain are those of its events
pub leads-in : (xs : List ℕ) (found : ℕ → Option ℕ) (u : ℕ) (chain : List ℕ) → IsRanked xs found → u < length xs → leads found u chain ≡ is_in chain (slice_index xs u)
leads-in xs found u [] r h = refl
leads-in xs found u (x ∷ chain) r h = λ i. here (found x) refl (x == slice_index xs u) refl i || leads-in xs found u chain r h i
  where
    here : (o : Option ℕ) → found x ≡ o → (b : Bool) → (x == slice_index xs u) ≡ b → is_some_and (λ v. v == u) (found x) ≡ (x == slice_index xs u)
    here o e true k = ap (is_some_and (λ v. v == u)) (ap found (eqb-true x (slice_index xs u) k) ∙ r.has u h) ∙ eq-eqb u u refl ∙ sym k
    here None e false k = ap (is_some_and (λ v. v == u)) e ∙ sym k
    here (Some v) e false k = ap (is_some_and (λ v. v == u)) e ∙ by (v == u) refl ∙ sym k
      where
        by : (b : Bool) → (v == u) ≡ b → b ≡ false
        by true f = absurd (cc (sym (eq-eqb x (slice_index xs u) (sym ((r.at x v e).1) ∙ ap (slice_index xs) (eqb-true v u f))) ∙ k))
        by false f = refl

-- ---- a rank follows those that are found for a chain

cited-set_same : (lists : Lists) (i : ℕ) (v : Vec ℕ Global) → i < length lists → cited (set lists i v) i ≡ v.items
cited-set_same [] i v h = absurd (omega (arith, h))
cited-set_same (w ∷ ws) zero v h = refl
cited-set_same (w ∷ ws) (suc i) v h = let l : i < length ws = omega (arith, h) in cited-set_same ws i v l

cited-set_other : (lists : Lists) (i u : ℕ) (v : Vec ℕ Global) → (i ≡ u → ⊥) → cited (set lists i v) u ≡ cited lists u
cited-set_other [] i u v n = refl
cited-set_other (w ∷ ws) zero zero v n = absurd (n refl)
cited-set_other (w ∷ ws) zero (suc u) v n = refl
cited-set_other (w ∷ ws) (suc i) zero v n = refl
cited-set_other (w ∷ ws) (suc i) (suc u) v n = cited-set_other ws i u v (λ e. n (ap suc e))

cited-set : (lists : Lists) (i u : ℕ) (v : Vec ℕ Global) → i < length lists → (b : Bool) → (i == u) ≡ b → cited (set lists i v) u ≡ cond b v.items (cited lists u)
cited-set lists i u v h true k = ap (cited (set lists i v)) (sym (eqb-true i u k)) ∙ cited-set_same lists i v h
cited-set lists i u v h false k = cited-set_other lists i u v (λ e. absurd (cc (sym (eq-eqb i u e) ∙ k)))

pub cited-at : (lists : Lists) (i : ℕ) (d : Vec ℕ Global) → i < length lists → d ≡ slice_index_or lists i d → cited lists i ≡ d.items
cited-at [] i d h e = absurd (omega (arith, h))
cited-at (w ∷ ws) zero d h e = λ j. (sym e j).items
cited-at (w ∷ ws) (suc i) d h e = let l : i < length ws = omega (arith, h) in cited-at ws i d l e

is_in-push : (xs : List ℕ) (r p : ℕ) → is_in (xs ++ r ∷ []) p ≡ (is_in xs p || (r == p))
is_in-push [] r p = or_nothing (r == p)
  where
    or_nothing : (b : Bool) → (b || false) ≡ b
    or_nothing true = refl
    or_nothing false = refl
is_in-push (x ∷ xs) r p = ap (λ b. (x == p) || b) (is_in-push xs r p) ∙ grouped (x == p) (is_in xs p) (r == p)
  where
    grouped : (a b c : Bool) → (a || (b || c)) ≡ ((a || b) || c)
    grouped true b c = refl
    grouped false b c = refl

leads-push : (found : ℕ → Option ℕ) (u x : ℕ) (xs : List ℕ) → leads found u (xs ++ x ∷ []) ≡ (leads found u xs || is_some_and (λ v. v == u) (found x))
leads-push found u x [] = or_nothing (is_some_and (λ v. v == u) (found x))
  where
    or_nothing : (b : Bool) → (b || false) ≡ b
    or_nothing true = refl
    or_nothing false = refl
leads-push found u x (y ∷ xs) = ap (λ b. is_some_and (λ v. v == u) (found y) || b) (leads-push found u x xs) ∙ grouped (is_some_and (λ v. v == u) (found y)) (leads found u xs) (is_some_and (λ v. v == u) (found x))
  where
    grouped : (a b c : Bool) → (a || (b || c)) ≡ ((a || b) || c)
    grouped true b c = refl
    grouped false b c = refl

-- the rank follows those that are found for these events, so many of them
pub record HasFollowed (old new : Lists) (found : ℕ → Option ℕ) (rank : ℕ) (xs : List ℕ) (count : ℕ) : Type 0 where
  pub len : length new ≡ length old
  pub members : (u p : ℕ) → is_in (cited new u) p ≡ (is_in (cited old u) p || ((rank == p) && leads found u xs))
  pub counted : (p : ℕ) → total_of new p ≡ total_of old p + (if rank == p then count else 0)

pub follows_none : (old new : Lists) (found : ℕ → Option ℕ) (rank x count : ℕ) (xs : List ℕ) → found x ≡ None → HasFollowed old new found rank xs count → HasFollowed old new found rank (xs ++ x ∷ []) count
follows_none old new found rank x count xs e h = record {
  len = h.len;
  members = λ u p. h.members u p ∙ ap (λ b. is_in (cited old u) p || ((rank == p) && b)) (sym (leads-push found u x xs ∙ ap (λ o. leads found u xs || is_some_and (λ v. v == u) o) e ∙ or_nothing (leads found u xs)));
  counted = h.counted;
}
  where
    or_nothing : (b : Bool) → (b || false) ≡ b
    or_nothing true = refl
    or_nothing false = refl

pub follows_one : (old new more : Lists) (v w : Vec ℕ Global) (found : ℕ → Option ℕ) (rank x place count : ℕ) (xs : List ℕ) → found x ≡ Some place → place < length new → more ≡ set new place w → v ≡ slice_index_or new place v → w.items ≡ v.items ++ rank ∷ []
    → HasFollowed old new found rank xs count → HasFollowed old more found rank (xs ++ x ∷ []) (count + 1)
follows_one old new more v w found rank x place count xs e l m g i h = subst (λ ls. HasFollowed old ls found rank (xs ++ x ∷ []) (count + 1)) (sym m) (record {
  len = length-set new place w ∙ h.len;
  members = members;
  counted = λ p. counted p;
})
  where
    grown : w.items ≡ cited new place ++ rank ∷ []
    grown = i ∙ ap (λ ys. ys ++ rank ∷ []) (sym (cited-at new place v l g))

    algebra : (a r l m : Bool) → ((a || (r && l)) || (m && r)) ≡ (a || (r && (l || m)))
    algebra true r l m = refl
    algebra false true true m = refl
    algebra false true false true = refl
    algebra false true false false = refl
    algebra false false l true = refl
    algebra false false l false = refl

    pushed : (u p : ℕ) (b : Bool) → (place == u) ≡ b → is_in (cond b w.items (cited new u)) p ≡ (is_in (cited new u) p || (b && (rank == p)))
    pushed u p true k = ap (λ ys. is_in ys p) (grown ∙ ap (λ y. cited new y ++ rank ∷ []) (eqb-true place u k)) ∙ is_in-push (cited new u) rank p
    pushed u p false k = or_nothing (is_in (cited new u) p)
      where
        or_nothing : (b : Bool) → b ≡ (b || false)
        or_nothing true = refl
        or_nothing false = refl

    members : (u p : ℕ) → is_in (cited (set new place w) u) p ≡ (is_in (cited old u) p || ((rank == p) && leads found u (xs ++ x ∷ [])))
    members u p =
        ap (λ ys. is_in ys p) (cited-set new place u w l (place == u) refl) ∙ pushed u p (place == u) refl ∙ ap (λ b. b || ((place == u) && (rank == p))) (h.members u p)
        ∙ algebra (is_in (cited old u) p) (rank == p) (leads found u xs) (place == u)
        ∙ ap (λ b. is_in (cited old u) p || ((rank == p) && b)) (sym (leads-push found u x xs ∙ ap (λ o. leads found u xs || is_some_and (λ y. y == u) o) e))

    sum : (p : ℕ) (b : Bool) → total_of (set new place w) p + times p v.items ≡ total_of new p + times p w.items → times p w.items ≡ times p v.items + cond b 1 0 → total_of new p ≡ total_of old p + cond b count 0 → total_of (set new place w) p ≡ total_of old p + cond b (count + 1) 0
    sum p true a b c = omega (arith, a, b, c)
    sum p false a b c = omega (arith, a, b, c)

    counted : (p : ℕ) → total_of (set new place w) p ≡ total_of old p + cond (rank == p) (count + 1) 0
    counted p =
        sum p (rank == p)
        (subst (λ y. total_of (set new place w) p + y ≡ total_of new p + times p w.items) (ap (λ (y : Vec ℕ Global). times p y.items) (sym g)) (sum_by-set (λ (y : Vec ℕ Global). times p y.items) new place w v l))
        (ap (times p) i ∙ sum_by_push (λ y. cond (y == p) 1 0) v.items rank) (h.counted p)

next_taken : (chain : List ℕ) (i x : ℕ) → i < length chain → x ≡ slice_index chain i → take (i + 1) chain ≡ take i chain ++ x ∷ []
next_taken chain i x l e = take_more chain i 0 l ∙ ap (λ y. take i chain ++ y ∷ []) (sym e)

-- a step of the loop
module _ (old new more : Lists) (found : ℕ → Option ℕ) (rank i x count n : ℕ) (chain : List ℕ) (l : i < length chain) (e : x ≡ slice_index_or chain i x) (h : HasFollowed old new found rank (take i chain) count) where
  one_more : take (i + 1) chain ≡ take i chain ++ x ∷ []
  one_more = next_taken chain i x l (at_any chain i x l e)

  pub step-none : found x ≡ None → more ≡ new → n ≡ count → HasFollowed old more found rank (take (i + 1) chain) n
  step-none o m k =
      subst (λ ls. HasFollowed old ls found rank (take (i + 1) chain) n) (sym m)
      (subst (λ y. HasFollowed old new found rank (take (i + 1) chain) y) (sym k)
      (subst (λ ys. HasFollowed old new found rank ys count) (sym one_more) (follows_none old new found rank x count (take i chain) o h)))

  pub step-one : (v w : Vec ℕ Global) (place : ℕ) → found x ≡ Some place → place < length new → more ≡ set new place w → v ≡ slice_index_or new place v → w.items ≡ v.items ++ rank ∷ [] → n ≡ count + 1 → HasFollowed old more found rank (take (i + 1) chain) n
  step-one v w place o p m g k q =
      subst (λ y. HasFollowed old more found rank (take (i + 1) chain) y) (sym q)
      (subst (λ ys. HasFollowed old more found rank ys (count + 1)) (sym one_more) (follows_one old new more v w found rank x place count (take i chain) o p m g k h))

-- ---- each rank in turn

pub within : (xs : List ℕ) (lists : Lists) (found : ℕ → Option ℕ) → IsRanked xs found → length lists ≡ length xs → (x : ℕ) → IfSome (found x) (λ place. place < length lists)
within xs lists found r e x = by (found x) refl
  where
    by : (o : Option ℕ) → found x ≡ o → IfSome o (λ place. place < length lists)
    by None k = tt
    by (Some u) k = let l = (r.at x u k).0 in omega (arith, l, e)

-- the first ranks follow those that their events cite
pub record AreFollowing (rows : List Row) (xs : List ℕ) (lists : Lists) (awaited : List ℕ) (count : ℕ) : Type 0 where
  pub followed : length lists ≡ length xs
  pub members : (u p : ℕ) → u < length xs → is_in (cited lists u) p ≡ (nat_lt p count && cites rows xs u p)
  pub waiting : length awaited ≡ count
  pub counted : (p : ℕ) → slice_index awaited p ≡ total_of lists p

pub none_following : (rows : List Row) (xs : List ℕ) (lists : Lists) (awaited : List ℕ) → length lists ≡ length xs → ((u : ℕ) → cited lists u ≡ []) → ((p : ℕ) → total_of lists p ≡ 0) → awaited ≡ [] → AreFollowing rows xs lists awaited 0
none_following rows xs lists awaited len empty none e = record {
  followed = len;
  members = λ u p h. ap (λ ys. is_in ys p) (empty u) ∙ sym (ap (λ b. b && cites rows xs u p) (below p (nat_lt p 0) refl));
  waiting = ap length e;
  counted = λ p. ap (λ ys. slice_index ys p) e ∙ sym (none p);
}
  where
    below : (p : ℕ) (b : Bool) → nat_lt p 0 ≡ b → b ≡ false
    below p true k = let l = ltb-true p 0 k in absurd (omega (arith, l))
    below p false k = refl

index-push : (xs : List ℕ) (n p : ℕ) → slice_index (xs ++ n ∷ []) p ≡ slice_index xs p + (if length xs == p then n else 0)
index-push xs n p = by (length xs == p) refl
  where
    alone : (a b : ℕ) → a ≡ 0 → b ≡ a + b
    alone a b e = omega (arith, e)

    beside : (a : ℕ) → a ≡ a + 0
    beside a = omega arith

    elsewhere : (length xs ≡ p → ⊥) → (p < length xs) ⊎ (length xs ≤ p) → slice_index (xs ++ n ∷ []) p ≡ slice_index xs p
    elsewhere o (inl l) = get_or_append_left xs (n ∷ []) 0 p l
    elsewhere o (inr l) =
        let long : length (xs ++ n ∷ []) ≡ length xs + 1 = length-append xs (n ∷ []) in
        let m : length (xs ++ n ∷ []) ≤ p = omega (arith, long, l, o) in
        get_or-eq_default (xs ++ n ∷ []) 0 m ∙ sym (get_or-eq_default xs 0 l)

    by : (b : Bool) → (length xs == p) ≡ b → slice_index (xs ++ n ∷ []) p ≡ slice_index xs p + cond b n 0
    by true k =
        let e = eqb-true (length xs) p k in
        let past : length xs ≤ p = omega (arith, e) in
        ap (slice_index (xs ++ n ∷ [])) (sym e) ∙ get_or-append_seam xs n [] 0 ∙ alone (slice_index xs p) n (get_or-eq_default xs 0 past)
    by false k = elsewhere (λ e. absurd (cc (sym (eq-eqb (length xs) p e) ∙ k))) (cases_lt p (length xs)) ∙ beside (slice_index xs p)

lt_more : (p n : ℕ) → (n ≡ p → ⊥) → nat_lt p (n + 1) ≡ nat_lt p n
lt_more p n o = by (nat_lt p n) (nat_lt p (n + 1)) refl refl
  where
    by : (a b : Bool) → nat_lt p n ≡ a → nat_lt p (n + 1) ≡ b → b ≡ a
    by true true j k = refl
    by false false j k = refl
    by true false j k = let l = ltb-true p n j in let m : p < n + 1 = omega (arith, l) in absurd (cc (sym (lt-ltb p (n + 1) m) ∙ k))
    by false true j k = let l = ltb-true p (n + 1) k in let m : p < n = omega (arith, l, o) in absurd (cc (sym (lt-ltb p n m) ∙ j))

not_below : (n : ℕ) → nat_lt n n ≡ false
not_below n = by (nat_lt n n) refl
  where
    by : (b : Bool) → nat_lt n n ≡ b → b ≡ false
    by true k = let l = ltb-true n n k in absurd (omega (arith, l))
    by false k = refl

-- one more rank
pub one_more_following : (rows : List Row) (xs chain awaited after : List ℕ) (lists more : Lists) (found : ℕ → Option ℕ) (count x n : ℕ) → IsRanked xs found → count < length xs → x ≡ slice_index_or xs count x → chain ≡ auth_events rows (event rows x)
    → length more ≡ length lists → ((u p : ℕ) → is_in (cited more u) p ≡ (is_in (cited lists u) p || ((count == p) && leads found u chain))) → ((p : ℕ) → total_of more p ≡ total_of lists p + (if count == p then n else 0)) → after ≡ awaited ++ n ∷ []
    → AreFollowing rows xs lists awaited count → AreFollowing rows xs more after (count + 1)
one_more_following rows xs chain awaited after lists more found count x n ranked l e cited_now len members total push f = record {
  followed = len ∙ f.followed;
  members = λ u p h. members u p ∙ ap (λ b. b || ((count == p) && leads found u chain)) (f.members u p h) ∙ ap (λ b. (nat_lt p count && cites rows xs u p) || ((count == p) && b)) (here u h) ∙ all u p (count == p) refl;
  waiting = let k = ap length push in let m = length-append awaited (n ∷ []) in let w = f.waiting in omega (arith, k, m, w);
  counted = λ p. ap (λ ys. slice_index ys p) push ∙ index-push awaited n p ∙ ap (λ b. slice_index awaited p + (if b == p then n else 0)) f.waiting ∙ ap (λ a. a + (if count == p then n else 0)) (f.counted p) ∙ sym (total p);
}
  where
    here : (u : ℕ) → u < length xs → leads found u chain ≡ cites rows xs u count
    here u h = leads-in xs found u chain ranked h ∙ ap (λ ys. is_in ys (slice_index xs u)) (cited_now ∙ ap (λ y. auth_events rows (event rows y)) (at_any xs count x l e))

    or_nothing : (b : Bool) → (b || false) ≡ b
    or_nothing true = refl
    or_nothing false = refl

    all : (u p : ℕ) (b : Bool) → (count == p) ≡ b → ((nat_lt p count && cites rows xs u p) || (b && cites rows xs u count)) ≡ (nat_lt p (count + 1) && cites rows xs u p)
    all u p true k =
        let same = eqb-true count p k in
        let next : p < count + 1 = omega (arith, same) in
        ap (λ b. (b && cites rows xs u p) || cites rows xs u count) (subst (λ y. nat_lt y count ≡ false) same (not_below count)) ∙ ap (cites rows xs u) same ∙ sym (ap (λ b. b && cites rows xs u p) (lt-ltb p (count + 1) next))
    all u p false k = or_nothing (nat_lt p count && cites rows xs u p) ∙ sym (ap (λ b. b && cites rows xs u p) (lt_more p count (λ q. absurd (cc (sym (eq-eqb count p q) ∙ k)))))
