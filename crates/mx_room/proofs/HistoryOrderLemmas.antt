-- Rows that wait, by their depths and numbers.
use Rattle.std.proofs.Common.{◌≡◌, ℕ, ◌==◌, ◌+◌, ◌<◌, nat_lt, Bool, true, false, cond, ◌&&◌, ◌||◌, not, List, [], ◌∷◌, ◌++◌, length, get_or, refl, sym, ap, subst, ◌∙◌, arith, eqb-true}
use Rattle.std.specs.Prelude.{take}
use Rattle.std.proofs.lemmas.List.{take_more}
use Rattle.std.specs.declared.cmp.Ordering.{Ordering}
use Rattle.std.specs.declared.cmp.Ordering.TheVariants.{Less, Equal, Greater}
use Rattle.std.specs.Ordering.{is_eq, is_lt, nat_cmp, ordering_then}
use Rattle.std.specs.Cmp.{IsTotalOrder, nat_cmp_total, on_total, then_total, tied_itself}
use Rattle.std.specs.BTreeSet.{BTreeSet, contains}
use Rattle.std.proofs.lemmas.Bool.Decides.{nat_tests}
use Rattle.mx_graph.specs.Depths.{depth_bound}
use Rattle.mx_graph.specs.Record.{Row, is_in}
use Rattle.mx_room.specs.HistoryWalks.{AreBounded, bounded, is_under, row_cmp, waits}
use Rattle.mx_room.specs.declared.queries.history_walks.RowByDepth.{RowByDepth}

-- ---- the order

less-then : (l e : Bool) (o : Ordering) → is_lt (ordering_then (cond l Less (cond e Equal Greater)) o) ≡ (l || (e && is_lt o))
less-then true e o = refl
less-then false true o = refl
less-then false false o = refl

less-numbers : (l e : Bool) → is_lt (cond l Less (cond e Equal Greater)) ≡ l
less-numbers true e = refl
less-numbers false true = refl
less-numbers false false = refl

pub less-is : (rows : List Row) (x y : ℕ) → is_lt (row_cmp (bounded rows x) (bounded rows y)) ≡ is_under (depth_bound rows) x y
less-is rows x y =
    less-then (nat_lt (depth_bound rows x) (depth_bound rows y)) (depth_bound rows x == depth_bound rows y) (nat_cmp x y)
    ∙ ap (λ b. nat_lt (depth_bound rows x) (depth_bound rows y) || ((depth_bound rows x == depth_bound rows y) && b)) (less-numbers (nat_lt x y) (x == y))

equal-then : (r o : Ordering) → is_eq (ordering_then r o) ≡ true → (is_eq r ≡ true) × (is_eq o ≡ true)
equal-then Less o e = absurd (cc e)
equal-then Equal o e = (refl, e)
equal-then Greater o e = absurd (cc e)

equal-numbers : (a b : ℕ) → is_eq (nat_cmp a b) ≡ true → a ≡ b
equal-numbers a b e = grind (arith, nat_tests)

one-row : (a b : RowByDepth) → is_eq (row_cmp a b) ≡ true → a ≡ b
one-row a b e =
    let parts = equal-then (nat_cmp a.depth b.depth) (nat_cmp a.number b.number) e in
    let d = equal-numbers a.depth b.depth parts.0 in
    let n = equal-numbers a.number b.number parts.1 in
    λ i. record { depth = d i; number = n i }

row_total : IsTotalOrder row_cmp
row_total = then_total (on_total (λ (r : RowByDepth). r.depth) nat_cmp_total) (on_total (λ (r : RowByDepth). r.number) nat_cmp_total)

itself : (a : RowByDepth) → is_eq (row_cmp a a) ≡ true
itself a = ap is_eq (tied_itself row_total a)

one_test : (a b : Bool) → (a ≡ true → b ≡ true) → (b ≡ true → a ≡ true) → a ≡ b
one_test true b f g = sym (f refl)
one_test false true f g = g refl
one_test false false f g = refl

tied-is : (rows : List Row) (x y : ℕ) → is_eq (row_cmp (bounded rows x) (bounded rows y)) ≡ (x == y)
tied-is rows x y =
    one_test (is_eq (row_cmp (bounded rows x) (bounded rows y))) (x == y)
    (λ e. let s : x ≡ y = ap (λ (r : RowByDepth). r.number) (one-row (bounded rows x) (bounded rows y) e) in grind (arith, nat_tests))
    (λ e. ap (λ w. is_eq (row_cmp (bounded rows x) (bounded rows w))) (sym (eqb-true x y e)) ∙ itself (bounded rows x))

-- ---- one row more, and one less

put-test : (t o : Bool) → cond t true o ≡ (o || t)
put-test true true = refl
put-test true false = refl
put-test false true = refl
put-test false false = refl

left-test : (t o : Bool) → cond t false o ≡ (o && not t)
left-test true true = refl
left-test true false = refl
left-test false true = refl
left-test false false = refl

module _ (rows : List Row) (old new : BTreeSet RowByDepth) (r : RowByDepth) (n : ℕ) (is : r ≡ bounded rows n) where
  pub put-waits : ((q : RowByDepth) → contains row_cmp new q ≡ cond (is_eq (row_cmp r q)) true (contains row_cmp old q)) → (p : ℕ) → waits rows new p ≡ (waits rows old p || (n == p))
  put-waits h p =
      h (bounded rows p) ∙ put-test (is_eq (row_cmp r (bounded rows p))) (waits rows old p)
      ∙ ap (λ b. waits rows old p || b) (ap (λ s. is_eq (row_cmp s (bounded rows p))) is ∙ tied-is rows n p)

  pub left-waits : ((q : RowByDepth) → contains row_cmp new q ≡ cond (is_eq (row_cmp r q)) false (contains row_cmp old q)) → (p : ℕ) → waits rows new p ≡ (waits rows old p && not (n == p))
  left-waits h p =
      h (bounded rows p) ∙ left-test (is_eq (row_cmp r (bounded rows p))) (waits rows old p)
      ∙ ap (λ b. waits rows old p && not b) (ap (λ s. is_eq (row_cmp s (bounded rows p))) is ∙ tied-is rows n p)

  pub put-bounded : ((q : RowByDepth) → contains row_cmp new q ≡ cond (is_eq (row_cmp r q)) true (contains row_cmp old q)) → n < length rows → AreBounded rows old → AreBounded rows new
  put-bounded h l k q e = by (is_eq (row_cmp r q)) refl
    where
      by : (b : Bool) → is_eq (row_cmp r q) ≡ b → (q ≡ bounded rows q.number) × (q.number < length rows)
      by true f = subst (λ s. (s ≡ bounded rows s.number) × (s.number < length rows)) (sym is ∙ one-row r q f) (refl, l)
      by false f = k q (sym (h q ∙ ap (λ b. cond b true (contains row_cmp old q)) f) ∙ e)

  pub left-bounded : ((q : RowByDepth) → contains row_cmp new q ≡ cond (is_eq (row_cmp r q)) false (contains row_cmp old q)) → AreBounded rows old → AreBounded rows new
  left-bounded h k q e = by (is_eq (row_cmp r q)) refl
    where
      by : (b : Bool) → is_eq (row_cmp r q) ≡ b → (q ≡ bounded rows q.number) × (q.number < length rows)
      by true f = absurd (cc (sym (h q ∙ ap (λ b. cond b false (contains row_cmp old q)) f) ∙ e))
      by false f = k q (sym (h q ∙ ap (λ b. cond b false (contains row_cmp old q)) f) ∙ e)

-- ---- one element more of a list

pub in-append_one : (xs : List ℕ) (x p : ℕ) → is_in (xs ++ x ∷ []) p ≡ (is_in xs p || (x == p))
in-append_one [] x p = by (x == p)
  where
    by : (b : Bool) → (b || false) ≡ b
    by true = refl
    by false = refl
in-append_one (y ∷ ys) x p = ap (λ b. (y == p) || b) (in-append_one ys x p) ∙ by (y == p) (is_in ys p) (x == p)
  where
    by : (a b c : Bool) → (a || (b || c)) ≡ ((a || b) || c)
    by true b c = refl
    by false b c = refl

in-take_more : (xs : List ℕ) (i n p : ℕ) → n ≡ get_or xs i n → i < length xs → is_in (take (i + 1) xs) p ≡ (is_in (take i xs) p || (n == p))
in-take_more xs i n p e h = ap (λ l. is_in l p) (take_more xs i n h) ∙ in-append_one (take i xs) (get_or xs i n) p ∙ ap (λ w. is_in (take i xs) p || (w == p)) (sym e)

-- ---- rows that are put ahead, except for the known ones

skipped : (a t k e : Bool) → (e ≡ true → k ≡ true) → (a || (t && not k)) ≡ (a || ((t || e) && not k))
skipped true t k e h = refl
skipped false true k e h = refl
skipped false false true e h = by e
  where
    by : (e : Bool) → false ≡ (false || ((false || e) && false))
    by true = refl
    by false = refl
skipped false false false true h = absurd (cc (h refl))
skipped false false false false h = refl

added : (a t k e : Bool) → (e ≡ true → k ≡ false) → ((a || (t && not k)) || e) ≡ (a || ((t || e) && not k))
added true t k e h = refl
added false true true true h = absurd (cc (h refl))
added false true true false h = refl
added false true false e h = refl
added false false true true h = absurd (cc (h refl))
added false false true false h = refl
added false false false true h = refl
added false false false false h = refl

module _ (old now known : ℕ → Bool) (xs : List ℕ) (i n : ℕ) (is : n ≡ get_or xs i n) (within : i < length xs) (so_far : (p : ℕ) → now p ≡ (old p || (is_in (take i xs) p && not (known p)))) where
  more : (p : ℕ) → (old p || ((is_in (take i xs) p || (n == p)) && not (known p))) ≡ (old p || (is_in (take (i + 1) xs) p && not (known p)))
  more p = ap (λ b. old p || (b && not (known p))) (sym (in-take_more xs i n p is within))

  pub ahead-skipped : known n ≡ true → (p : ℕ) → now p ≡ (old p || (is_in (take (i + 1) xs) p && not (known p)))
  ahead-skipped k p = so_far p ∙ skipped (old p) (is_in (take i xs) p) (known p) (n == p) (λ e. subst (λ w. known w ≡ true) (eqb-true n p e) k) ∙ more p

  pub ahead-added : (next : ℕ → Bool) → known n ≡ false → ((p : ℕ) → next p ≡ (now p || (n == p))) → (p : ℕ) → next p ≡ (old p || (is_in (take (i + 1) xs) p && not (known p)))
  ahead-added next k h p =
      h p ∙ ap (λ b. b || (n == p)) (so_far p)
      ∙ added (old p) (is_in (take i xs) p) (known p) (n == p) (λ e. subst (λ w. known w ≡ false) (eqb-true n p e) k) ∙ more p

-- ---- rows that are known

or-more : (a t e : Bool) → ((a || t) || e) ≡ (a || (t || e))
or-more true t e = refl
or-more false t e = refl

left-more : (a t e : Bool) → ((a && not t) && not e) ≡ (a && not (t || e))
left-more true true e = refl
left-more true false e = refl
left-more false t e = refl

module _ (old now next : ℕ → Bool) (xs : List ℕ) (i n : ℕ) (is : n ≡ get_or xs i n) (within : i < length xs) where
  pub known-added : ((p : ℕ) → now p ≡ (old p || is_in (take i xs) p)) → ((p : ℕ) → next p ≡ (now p || (n == p))) → (p : ℕ) → next p ≡ (old p || is_in (take (i + 1) xs) p)
  known-added so_far h p =
      h p ∙ ap (λ b. b || (n == p)) (so_far p) ∙ or-more (old p) (is_in (take i xs) p) (n == p) ∙ ap (λ b. old p || b) (sym (in-take_more xs i n p is within))

  pub ahead-left : ((p : ℕ) → now p ≡ (old p && not (is_in (take i xs) p))) → ((p : ℕ) → next p ≡ (now p && not (n == p))) → (p : ℕ) → next p ≡ (old p && not (is_in (take (i + 1) xs) p))
  ahead-left so_far h p =
      h p ∙ ap (λ b. b && not (n == p)) (so_far p) ∙ left-more (old p) (is_in (take i xs) p) (n == p) ∙ ap (λ b. old p && not b) (sym (in-take_more xs i n p is within))
