-- The walk over marks, from the last number down.
use Rattle.std.proofs.Math.Seq.{take-append_seam}
use Rattle.std.proofs.Common.{◌≡◌, ◌++◌, take, drop, ℕ, zero, suc, ◌==◌, ◌≤◌, ◌<◌, ◌+◌, ◌-◌, nat_le, nat_lt, Bool, true, false, cond, ◌||◌, ◌&&◌, ◌⊎◌, inl, inr, List, [], ◌∷◌, length, refl, sym, ap, ◌∙◌, arith, eq-eqb, eqb-true}
use Rattle.std.proofs.lemmas.Bool.{cases_lt, eqb-false, le-leb, lt-ltb}
use Rattle.std.proofs.lemmas.Bool.Decides.{nat_tests}
use Rattle.std.specs.Prelude.{slice_index_or, Vec}
use Rattle.std.specs.declared.alloc.Global.{Global}
use Rattle.std.specs.List.{list_any}
use Rattle.mx_graph.specs.Closing.{AreCitedBelow, IsMarked}
use Rattle.mx_graph.specs.Edges.{LeadDown, cited}
use Rattle.mx_graph.specs.Graph.{IsLeastClosed}
use Rattle.mx_graph.specs.Record.{is_in}
use Rattle.mx_graph.proofs.Closure.{one_answer, or_cases, or_left, or_right}

pub any-to : (f : ℕ → Bool) (xs : List ℕ) → list_any f xs ≡ true → (x : ℕ) × (is_in xs x ≡ true) × (f x ≡ true)
any-to f [] e = absurd (cc e)
any-to f (x ∷ xs) e = by (any-to f xs) (or_cases (f x) (list_any f xs) e)
  where
    by : (list_any f xs ≡ true → (y : ℕ) × (is_in xs y ≡ true) × (f y ≡ true)) → (f x ≡ true) ⊎ (list_any f xs ≡ true) → (y : ℕ) × (is_in (x ∷ xs) y ≡ true) × (f y ≡ true)
    by later (inl k) = (x, or_left (x == x) (is_in xs x) (eq-eqb x x refl), k)
    by later (inr k) = let r = later k in (r.0, or_right (x == r.0) (is_in xs r.0) r.1, r.2)

any-from : (f : ℕ → Bool) (xs : List ℕ) (x : ℕ) → is_in xs x ≡ true → f x ≡ true → list_any f xs ≡ true
any-from f [] x e k = absurd (cc e)
any-from f (y ∷ xs) x e k = by (any-from f xs x) (or_cases (y == x) (is_in xs x) e)
  where
    by : (is_in xs x ≡ true → f x ≡ true → list_any f xs ≡ true) → ((y == x) ≡ true) ⊎ (is_in xs x ≡ true) → (f y || list_any f xs) ≡ true
    by later (inl g) = or_left (f y) (list_any f xs) (ap f (eqb-true y x g) ∙ k)
    by later (inr g) = or_right (f y) (list_any f xs) (later g k)

module _ (cites : ℕ → List ℕ) (starts : List ℕ) (least m : ℕ) (marks : List Bool) (taken : List ℕ) (down : LeadDown cites) (walk : IsMarked cites starts least (suc m) marks taken) where
  abbrev P : ℕ
  P = least + m

  abbrev M : Bool
  M = list_any (λ s. is_in (cites s) P) starts || list_any (λ f. is_in (cites f) P) taken

  mark-is : slice_index_or marks m false ≡ M
  mark-is = walk.marked m ∙ ap (λ b. b && M) (lt-ltb m (length marks) (let l : suc m ≤ length marks = walk.in_range in omega arith))

  module _ (all : ℕ → Bool) (closed : IsLeastClosed cites starts all) where
    to_all : M ≡ true → all P ≡ true
    to_all e = by (or_cases (list_any (λ s. is_in (cites s) P) starts) (list_any (λ f. is_in (cites f) P) taken) e)
      where
        by : (list_any (λ s. is_in (cites s) P) starts ≡ true) ⊎ (list_any (λ f. is_in (cites f) P) taken ≡ true) → all P ≡ true
        by (inl k) = let r = any-to (λ s. is_in (cites s) P) starts k in closed.0 r.0 P (or_left (is_in starts r.0) (all r.0) r.1) r.2
        by (inr k) =
            let r = any-to (λ f. is_in (cites f) P) taken k in
            closed.0 r.0 P (or_right (is_in starts r.0) (all r.0) (sym (walk.reached all closed r.0 (walk.above r.0 r.1)) ∙ r.1)) r.2

    -- the set in which the mark stands for its number
    abbrev other : ℕ → Bool
    other q = cond (P == q) M (all q)

    other-here : other P ≡ M
    other-here = ap (λ b. cond b M (all P)) (eq-eqb P P refl)

    other-else : (q : ℕ) → (P == q) ≡ false → other q ≡ all q
    other-else q e = ap (λ b. cond b M (all q)) e

    above-all : (x : ℕ) → P < x → all x ≡ true → is_in taken x ≡ true
    above-all x l e = walk.reached all closed x (omega arith) ∙ e

    from_all : all P ≡ true → M ≡ true
    from_all e = sym other-here ∙ closed.1 other is_closed P e
      where
        all-of : (x : ℕ) → other x ≡ true → all x ≡ true
        all-of x k = by (P == x) refl
          where
            by : (b : Bool) → (P == x) ≡ b → all x ≡ true
            by true g = ap all (sym (eqb-true P x g)) ∙ e
            by false g = sym (other-else x g) ∙ k

        is_closed : (x y : ℕ) → (is_in starts x || other x) ≡ true → is_in (cites x) y ≡ true → other y ≡ true
        is_closed x y h c = by (P == y) refl (or_cases (is_in starts x) (other x) h)
          where
            by : (b : Bool) → (P == y) ≡ b → (is_in starts x ≡ true) ⊎ (other x ≡ true) → other y ≡ true
            by true g (inl s) =
                let here : P ≡ y = eqb-true P y g in
                ap other (sym here) ∙ other-here
                ∙ or_left (list_any (λ s. is_in (cites s) P) starts) _ (any-from (λ s. is_in (cites s) P) starts x s (ap (is_in (cites x)) here ∙ c))
            by true g (inr o) =
                let here : P ≡ y = eqb-true P y g in
                let l : y < x = down x y c in
                let higher : P < x = omega arith in
                ap other (sym here) ∙ other-here
                ∙ or_right (list_any (λ s. is_in (cites s) P) starts) _ (any-from (λ f. is_in (cites f) P) taken x (above-all x higher (all-of x o)) (ap (is_in (cites x)) here ∙ c))
            by false g (inl s) = other-else y g ∙ closed.0 x y (or_left (is_in starts x) (all x) s) c
            by false g (inr o) = other-else y g ∙ closed.0 x y (or_right (is_in starts x) (all x) (all-of x o)) c

    mark-reached : slice_index_or marks m false ≡ all P
    mark-reached = mark-is ∙ one_answer M (all P) to_all from_all

  -- the number is not marked: it is not reached
  pub walk-passes : slice_index_or marks m false ≡ false → IsMarked cites starts least m marks taken
  walk-passes e = record {
    in_range = let l : suc m ≤ length marks = walk.in_range in omega arith;
    marked = walk.marked;
    rises = walk.rises;
    above = λ p k. let l : least + suc m ≤ p = walk.above p k in omega arith;
    reached = λ all closed p l. at all closed p l (cases_lt P p);
  }
    where
      not_taken : (b : Bool) → is_in taken P ≡ b → is_in taken P ≡ false
      not_taken true k = absurd (let l : least + suc m ≤ P = walk.above P k in omega arith)
      not_taken false k = k

      at : (all : ℕ → Bool) (closed : IsLeastClosed cites starts all) (p : ℕ) → P ≤ p → (P < p) ⊎ (p ≤ P) → is_in taken p ≡ all p
      at all closed p l (inl h) = walk.reached all closed p (omega arith)
      at all closed p l (inr h) =
          let same : p ≡ P = omega arith in
          ap (is_in taken) same ∙ not_taken (is_in taken P) refl ∙ sym e ∙ mark-reached all closed ∙ ap all (sym same)

  -- the number is marked: it is taken, and what it cites is marked
  module _ (next : List Bool) (len : length next ≡ length marks) (is_next : (q : ℕ) → slice_index_or next q false ≡ (slice_index_or marks q false || (nat_lt q (length marks) && is_in (cites P) (least + q)))) where
    pub walk-takes : slice_index_or marks m false ≡ true → IsMarked cites starts least m next (P ∷ taken)
    walk-takes e = record {
      in_range = let l : suc m ≤ length marks = walk.in_range in let k : length next ≡ length marks = len in omega arith;
      marked = λ q. is_next q ∙ ap (λ b. b || (nat_lt q (length marks) && is_in (cites P) (least + q))) (walk.marked q)
          ∙ together (nat_lt q (length marks)) (list_any (λ s. is_in (cites s) (least + q)) starts) (list_any (λ f. is_in (cites f) (least + q)) taken) (is_in (cites P) (least + q))
          ∙ ap (λ n. nat_lt q n && (list_any (λ s. is_in (cites s) (least + q)) starts || list_any (λ f. is_in (cites f) (least + q)) (P ∷ taken))) (sym len);
      rises = ((λ y k. let l : least + suc m ≤ y = walk.above y k in omega arith), walk.rises);
      above = λ p k. over p (or_cases (P == p) (is_in taken p) k);
      reached = λ all closed p l. at all closed p l (P == p) refl;
    }
      where
        together : (a b c d : Bool) → ((a && (b || c)) || (a && d)) ≡ (a && (b || (d || c)))
        together true true c d = refl
        together true false true true = refl
        together true false true false = refl
        together true false false d = or-none d
          where
            or-none : (d : Bool) → d ≡ (d || false)
            or-none true = refl
            or-none false = refl
        together false b c d = refl

        over : (p : ℕ) → ((P == p) ≡ true) ⊎ (is_in taken p ≡ true) → least + m ≤ p
        over p (inl g) = let same : P ≡ p = eqb-true P p g in omega arith
        over p (inr g) = let l : least + suc m ≤ p = walk.above p g in omega arith

        at : (all : ℕ → Bool) (closed : IsLeastClosed cites starts all) (p : ℕ) → P ≤ p → (b : Bool) → (P == p) ≡ b → ((P == p) || is_in taken p) ≡ all p
        at all closed p l true g = ap (λ b. b || is_in taken p) g ∙ sym e ∙ mark-reached all closed ∙ ap all (eqb-true P p g)
        at all closed p l false g =
            let differ = eqb-false P p g in
            let higher : P < p = omega arith in
            ap (λ b. b || is_in taken p) g ∙ walk.reached all closed p (omega arith)

-- at first nothing is taken: no number that is left out is reached
pub walk-begins : (cites : ℕ → List ℕ) (starts : List ℕ) (least n : ℕ) (old marks : List Bool) → LeadDown cites → AreCitedBelow cites starts n → length marks ≡ n - least
    → ((q : ℕ) → slice_index_or old q false ≡ false) → length old ≡ length marks
    → ((q : ℕ) → slice_index_or marks q false ≡ (slice_index_or old q false || (nat_lt q (length old) && list_any (λ s. is_in (cites s) (least + q)) starts)))
    → IsMarked cites starts least (length marks) marks []
walk-begins cites starts least n old marks down within len empty same marked = record {
  in_range = omega arith;
  marked = λ q. marked q ∙ ap (λ b. b || (nat_lt q (length old) && list_any (λ s. is_in (cites s) (least + q)) starts)) (empty q) ∙ ap (λ k. nat_lt q k && list_any (λ s. is_in (cites s) (least + q)) starts) same
      ∙ ap (λ b. nat_lt q (length marks) && b) (or-none (list_any (λ s. is_in (cites s) (least + q)) starts));
  rises = tt;
  above = λ p k. absurd (cc k);
  reached = λ all closed p l. beyond all closed p (let k : length marks ≡ n - least = len in omega arith);
}
  where
    or-none : (d : Bool) → d ≡ (d || false)
    or-none true = refl
    or-none false = refl

    second : (a b : Bool) → (a && b) ≡ true → b ≡ true
    second true b f = f
    second false b f = absurd (cc f)

    -- no number from the bound on is reached
    beyond : (all : ℕ → Bool) → IsLeastClosed cites starts all → (p : ℕ) → n ≤ p → false ≡ all p
    beyond all closed p l = by (all p) refl
      where
        inside : (x y : ℕ) → (is_in starts x || (all x && nat_lt x n)) ≡ true → is_in (cites x) y ≡ true → (all y && nat_lt y n) ≡ true
        inside x y h c = both (all y) (nat_lt y n) (closed.0 x y (wider (is_in starts x) (all x) (nat_lt x n) h) c) (lt-ltb y n (low (or_cases (is_in starts x) (all x && nat_lt x n) h)))
          where
            both : (a b : Bool) → a ≡ true → b ≡ true → (a && b) ≡ true
            both true b e f = f
            both false b e f = e

            wider : (a b d : Bool) → (a || (b && d)) ≡ true → (a || b) ≡ true
            wider true b d e = refl
            wider false true d e = refl
            wider false false d e = e

            ltb-below : nat_lt x n ≡ true → x < n
            ltb-below e = grind (arith, nat_tests)

            low : (is_in starts x ≡ true) ⊎ ((all x && nat_lt x n) ≡ true) → y < n
            low (inl k) = within x y k c
            low (inr k) = let m : y < x = down x y c in let l : x < n = ltb-below (second (all x) (nat_lt x n) k) in omega arith

        by : (b : Bool) → all p ≡ b → false ≡ all p
        by true e = absurd (cc (sym (second (all p) (nat_lt p n) (closed.1 (λ q. all q && nat_lt q n) inside p e)) ∙ not-below))
          where
            not-below : nat_lt p n ≡ false
            not-below = grind (arith, nat_tests)
        by false e = sym e

-- at last all from the least on are taken
pub walk-ends : (cites : ℕ → List ℕ) (starts : List ℕ) (least : ℕ) (marks : List Bool) (taken : List ℕ) → IsMarked cites starts least 0 marks taken
    → (all : ℕ → Bool) → IsLeastClosed cites starts all → (p : ℕ) → is_in taken p ≡ (nat_le least p && all p)
walk-ends cites starts least marks taken walk all closed p = by (cases_lt p least)
  where
    not_taken : p < least → (b : Bool) → is_in taken p ≡ b → is_in taken p ≡ false
    not_taken l true k = absurd (let h : least + 0 ≤ p = walk.above p k in omega arith)
    not_taken l false k = k

    by : (p < least) ⊎ (least ≤ p) → is_in taken p ≡ (nat_le least p && all p)
    by (inl l) = not_taken l (is_in taken p) refl ∙ ap (λ b. b && all p) (sym (below l))
      where
        below : p < least → nat_le least p ≡ false
        below l = grind (arith, nat_tests)
    by (inr l) = walk.reached all closed p (omega arith) ∙ ap (λ b. b && all p) (sym (le-leb least p l))

-- a slice of a list is written back whole
pub written : {A : Type 0} (new old : List A) (n : ℕ) → n ≡ length old → length new ≡ length old → take n (new ++ drop (length new) old) ≡ new
written new old n e f = ap (λ k. take k (new ++ drop (length new) old)) (e ∙ sym f) ∙ take-append_seam new (drop (length new) old)

-- an event beyond all lists cites none
pub cited-none : (edges : List (Vec ℕ Global)) (x : ℕ) → length edges ≤ x → cited edges x ≡ []
cited-none [] x l = refl
cited-none (e ∷ edges) zero l = absurd (omega arith)
cited-none (e ∷ edges) (suc x) l = cited-none edges x (omega arith)

-- nothing that leads down leads to a number beyond all lists
pub cited-within : (edges : List (Vec ℕ Global)) (starts : List ℕ) → LeadDown (cited edges) → AreCitedBelow (cited edges) starts (length edges)
cited-within edges starts down x y s e = by (cases_lt x (length edges))
  where
    by : (x < length edges) ⊎ (length edges ≤ x) → y < length edges
    by (inl l) = let m : y < x = down x y e in omega arith
    by (inr l) = absurd (cc (sym (ap (λ zs. is_in zs y) (cited-none edges x l)) ∙ e))

pub cited-here : (edges : List (Vec ℕ Global)) (x : ℕ) (d : Vec ℕ Global) → x < length edges → cited edges x ≡ (slice_index_or edges x d).items
cited-here [] x d l = absurd (omega arith)
cited-here (e ∷ edges) zero d l = refl
cited-here (e ∷ edges) (suc x) d l = cited-here edges x d (omega arith)

-- a mark that was read
pub marked-here : (marks : List Bool) (m : ℕ) (read is : Bool) → m < length marks → read ≡ slice_index_or marks m read → read ≡ is → slice_index_or marks m false ≡ is
marked-here [] m read is l e f = absurd (omega arith)
marked-here (b ∷ marks) zero read is l e f = sym e ∙ f
marked-here (b ∷ marks) (suc m) read is l e f = marked-here marks m read is (omega arith) e f
