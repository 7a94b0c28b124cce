-- The power levels events that an event rests on, step by step.
use Rattle.std.proofs.Common.{◌≡◌, ℕ, zero, suc, ◌+◌, ◌==◌, ◌≤◌, ◌<◌, ◌||◌, ◌⊎◌, inl, inr, Bool, true, false, cond, List, [], ◌∷◌, ◌++◌, length, slice_index, refl, sym, ap, ◌∙◌, arith, eq-eqb, eqb-true, append_assoc}
use Rattle.std.proofs.lemmas.List.{append-nil, length-append}
use Rattle.std.specs.Prelude.{find as first_where, position, Option, Some, None, option_and_then, is_some, IfSome}
use Rattle.std.specs.List.{list_any, position_from}
use Rattle.std.proofs.lemmas.Iterator.Adapters.{position_from-zero}
use Rattle.std.proofs.lemmas.Bool.{cases_lt}
use Rattle.std.proofs.lemmas.List.Quantifiers.{position-Some}
use Rattle.mx_graph.specs.Record.{Row, event, auth_events, is_in}
use Rattle.mx_graph.specs.Graph.{IsSound}
use Rattle.mx_graph.proofs.Closure.{or_left, or_right}
use Rattle.mx_graph.proofs.RemovalLemmas.{lt-neq}
use Rattle.mx_orders.specs.Lists.{left}
use Rattle.mx_orders.specs.StateMap.{auth_event_at}
use Rattle.mx_orders.specs.Mainline.{power_key, power_levels_within, power_levels_of, mainline, mainline_position}
use Rattle.mx_orders.specs.Ties.{position_on}

first-member : (test : ℕ → Bool) (xs : List ℕ) (q : ℕ) → first_where test xs ≡ Some q → is_in xs q ≡ true
first-member test [] q e = absurd (cc e)
first-member test (x ∷ xs) q e = by (first-member test xs q) (test x) e
  where
    by : (first_where test xs ≡ Some q → is_in xs q ≡ true) → (b : Bool) → cond b (Some x) (first_where test xs) ≡ Some q → is_in (x ∷ xs) q ≡ true
    by later true k = or_left (x == q) _ (eq-eqb x q (cc k))
    by later false k = or_right (x == q) _ (later k)

any-from : {A : Type 0} (test : A → Bool) (n : ℕ) (xs : List A) → list_any test xs ≡ is_some (position_from test n xs)
any-from test n [] = refl
any-from test n (x ∷ xs) = by (test x) (any-from test (n + 1) xs)
  where
    by : (b : Bool) → list_any test xs ≡ is_some (position_from test (n + 1) xs) → (b || list_any test xs) ≡ is_some (cond b (Some n) (position_from test (n + 1) xs))
    by true later = refl
    by false later = later

-- a tail in which nothing passes changes no place
from-append : (test : ℕ → Bool) (n : ℕ) (xs ys : List ℕ) → ((k : ℕ) → position_from test k ys ≡ None) → position_from test n (xs ++ ys) ≡ position_from test n xs
from-append test n [] ys h = h n
from-append test n (x ∷ xs) ys h = ap (cond (test x) (Some n)) (from-append test (n + 1) xs ys h)

pub any-position : {A : Type 0} (test : A → Bool) (xs : List A) → list_any test xs ≡ is_some (position test xs)
any-position test xs = any-from test 0 xs ∙ ap is_some (sym (position_from-zero test xs))

module _ (rows : List Row) (sound : IsSound rows) where
  abbrev power_at : ℕ → Option ℕ
  power_at p = auth_event_at rows (event rows p) power_key

  power_at-earlier : (p q : ℕ) → power_at p ≡ Some q → (q < length rows) × (q < p)
  power_at-earlier p q e = sound.auth p q (first-member _ (auth_events rows (event rows p)) q e)

  abbrev after : Option ℕ → (ℕ → List ℕ) → List ℕ
  after o rest = elim o as (λ _. List ℕ) [ None ↦ [] | Some q ↦ q ∷ rest q ]

  -- as many steps as the event's place are enough
  enough : (n m p : ℕ) → p ≤ n → p ≤ m → power_levels_within rows n p ≡ power_levels_within rows m p
  enough zero zero p h k = refl
  enough zero (suc m) p h k = by (power_at p) refl
    where
      by : (o : Option ℕ) → power_at p ≡ o → [] ≡ after o (power_levels_within rows m)
      by None e = refl
      by (Some q) e = let l : q < p = (power_at-earlier p q e).1 in absurd (omega arith)
  enough (suc n) zero p h k = by (power_at p) refl
    where
      by : (o : Option ℕ) → power_at p ≡ o → after o (power_levels_within rows n) ≡ []
      by None e = refl
      by (Some q) e = let l : q < p = (power_at-earlier p q e).1 in absurd (omega arith)
  enough (suc n) (suc m) p h k = by (λ q l j. enough n m q l j) (power_at p) refl
    where
      by : ((q : ℕ) → q ≤ n → q ≤ m → power_levels_within rows n q ≡ power_levels_within rows m q) → (o : Option ℕ) → power_at p ≡ o → after o (power_levels_within rows n) ≡ after o (power_levels_within rows m)
      by later None e = refl
      by later (Some q) e = let l : q < p = (power_at-earlier p q e).1 in ap (λ w. q ∷ w) (later q (omega arith) (omega arith))

  -- the first of them, and those that it rests on
  power_levels-step : (p : ℕ) → power_levels_of rows p ≡ after (power_at p) (power_levels_of rows)
  power_levels-step p = by (length rows) refl (power_at p) refl
    where
      by : (n : ℕ) → length rows ≡ n → (o : Option ℕ) → power_at p ≡ o → power_levels_within rows n p ≡ after o (power_levels_within rows n)
      by zero h None e = refl
      by zero h (Some q) e = let l : q < length rows = (power_at-earlier p q e).0 in absurd (omega arith)
      by (suc n) h o e = ap (λ w. after w (power_levels_within rows n)) e ∙ step o e
        where
          step : (o : Option ℕ) → power_at p ≡ o → after o (power_levels_within rows n) ≡ after o (power_levels_within rows (suc n))
          step None k = refl
          step (Some q) k = let l : q < length rows = (power_at-earlier p q k).0 in ap (λ w. q ∷ w) (enough n (suc n) q (omega arith) (omega arith))

  pub mainline-step : (p : ℕ) → mainline rows (Some p) ≡ p ∷ mainline rows (power_at p)
  unfolding mainline
  mainline-step p = ap (λ w. p ∷ w) (power_levels-step p ∙ by (power_at p))
    where
      by : (o : Option ℕ) → after o (power_levels_of rows) ≡ mainline rows o
      by None = refl
      by (Some q) = refl

  abbrev place : List ℕ → ℕ → Option ℕ
  place line q = position (λ x. x == q) line

  pub position-none : (line : List ℕ) (p : ℕ) → power_at p ≡ None → mainline_position rows line p ≡ None
  unfolding mainline_position
  position-none line p e = ap (λ w. option_and_then (place line) (first_where (is_in line) w)) (power_levels-step p ∙ ap (λ o. after o (power_levels_of rows)) e)

  first-step : (line : List ℕ) (p q : ℕ) → power_at p ≡ Some q → mainline_position rows line p ≡ option_and_then (place line) (cond (is_in line q) (Some q) (first_where (is_in line) (power_levels_of rows q)))
  unfolding mainline_position
  first-step line p q e = ap (λ w. option_and_then (place line) (first_where (is_in line) w)) (power_levels-step p ∙ ap (λ o. after o (power_levels_of rows)) e)

  pub position-here : (line : List ℕ) (p q n : ℕ) → power_at p ≡ Some q → place line q ≡ Some n → mainline_position rows line p ≡ Some n
  position-here line p q n e k =
      first-step line p q e
      ∙ ap (λ b. option_and_then (place line) (cond b (Some q) (first_where (is_in line) (power_levels_of rows q)))) (any-position (λ x. x == q) line ∙ ap is_some k)
      ∙ k

  pub position-later : (line : List ℕ) (p q : ℕ) → power_at p ≡ Some q → place line q ≡ None → mainline_position rows line p ≡ mainline_position rows line q
  unfolding mainline_position
  position-later line p q e k =
      first-step line p q e
      ∙ ap (λ b. option_and_then (place line) (cond b (Some q) (first_where (is_in line) (power_levels_of rows q)))) (any-position (λ x. x == q) line ∙ ap is_some k)

  pub position_on-is : (line : List ℕ) (p q : ℕ) → power_at p ≡ Some q → mainline_position rows line p ≡ position_on rows line q
  unfolding position_on
  position_on-is line p q e = first-step line p q e

  -- ---- a mainline that was followed in part

  none-within : (n p q k : ℕ) → p ≤ q → position_from (λ x. x == q) k (power_levels_within rows n p) ≡ None
  none-within zero p q k h = refl
  none-within (suc n) p q k h = by (λ r l. none-within n r q (k + 1) (omega (arith, l, h))) (power_at p) refl
    where
      by : ((r : ℕ) → r < p → position_from (λ x. x == q) (k + 1) (power_levels_within rows n r) ≡ None) → (o : Option ℕ) → power_at p ≡ o → position_from (λ x. x == q) k (after o (power_levels_within rows n)) ≡ None
      by later None e = refl
      by later (Some r) e =
          let m : r < p = (power_at-earlier p r e).1 in
          ap (λ b. cond b (Some k) (position_from (λ x. x == q) (k + 1) (power_levels_within rows n r))) (lt-neq r q (omega (arith, m, h))) ∙ later r m

  none-mainline : (next : Option ℕ) (q k : ℕ) → IfSome next (λ p. p < q) → position_from (λ x. x == q) k (mainline rows next) ≡ None
  unfolding mainline
  none-mainline None q k h = refl
  none-mainline (Some p) q k h =
      ap (λ b. cond b (Some k) (position_from (λ x. x == q) (k + 1) (power_levels_of rows p))) (lt-neq p q h) ∙ none-within (length rows) p q (k + 1) (omega (arith, h))

  none-here : (xs : List ℕ) (q : ℕ) → position_from (λ x. x == q) 0 xs ≡ None → is_in xs q ≡ false
  none-here xs q e = any-from (λ x. x == q) 0 xs ∙ ap is_some e

  -- what an event rests on is not above it
  rests-under : (q r : ℕ) → is_in (q ∷ power_levels_of rows q) r ≡ true → r ≤ q
  rests-under q r h = by (cases_lt q r)
    where
      by : (q < r) ⊎ (r ≤ q) → r ≤ q
      by (inl l) = absurd (cc (sym (none-here (q ∷ power_levels_of rows q) r (ap (λ b. cond b (Some 0) (position_from (λ x. x == r) 1 (power_levels_of rows q))) (lt-neq q r l) ∙ none-within (length rows) q r 1 (omega (arith, l)))) ∙ h))
      by (inr l) = l

  -- the position of those that rest on an event first is a place of an event that is not above it
  pub position_on-under : (line : List ℕ) (q m : ℕ) → position_on rows line q ≡ Some m → slice_index line m ≤ q
  unfolding position_on
  position_on-under line q m e = by (first_where (is_in line) (q ∷ power_levels_of rows q)) refl e
    where
      by : (o : Option ℕ) → first_where (is_in line) (q ∷ power_levels_of rows q) ≡ o → option_and_then (place line) o ≡ Some m → slice_index line m ≤ q
      by None k j = absurd (cc j)
      by (Some r) k j =
          let here : slice_index line m ≡ r = eqb-true _ _ (position-Some (λ x. x == r) line m 0 j).1 in
          let under : r ≤ q = rests-under q r (first-member (is_in line) (q ∷ power_levels_of rows q) r k) in
          omega (arith, here, under)

  -- an event above what comes next has its place in what was followed
  pub place-followed : (line : List ℕ) (next : Option ℕ) (q : ℕ) → IfSome next (λ p. p < q) → position (λ x. x == q) line ≡ position (λ x. x == q) (line ++ mainline rows next)
  place-followed line next q h =
      position_from-zero (λ x. x == q) line ∙ sym (from-append (λ x. x == q) 0 line (mainline rows next) (λ k. none-mainline next q k h))
      ∙ sym (position_from-zero (λ x. x == q) (line ++ mainline rows next))

  -- ---- steps of the loop that makes a mainline

  pub mainline_more : (all so_far more : List ℕ) (now next : Option ℕ) (p : ℕ) → now ≡ Some p → next ≡ power_at p → more ≡ so_far ++ p ∷ [] → so_far ++ mainline rows now ≡ all → more ++ mainline rows next ≡ all
  mainline_more all so_far more now next p e k m h =
      (λ i. m i ++ mainline rows (k i)) ∙ append_assoc so_far (p ∷ []) (mainline rows (power_at p))
      ∙ ap (λ w. so_far ++ w) (sym (mainline-step p) ∙ ap (mainline rows) (sym e)) ∙ h

pub mainline_done : (rows : List Row) (so_far : List ℕ) (now : Option ℕ) (all : List ℕ) → now ≡ None → so_far ++ mainline rows now ≡ all → so_far ≡ all
unfolding mainline
mainline_done rows so_far now all e h = sym (append-nil so_far) ∙ ap (λ w. so_far ++ mainline rows w) (sym e) ∙ h

pub fewer : (rows : List Row) (so_far more : List ℕ) (now next : Option ℕ) (p : ℕ) → now ≡ Some p → more ≡ so_far ++ p ∷ [] → IfSome next (λ q. q < p) → IfSome next (λ q. q < length rows) → length rows ≤ 50000
    → (0 < length so_far → length so_far + left now ≤ 50001) → 0 < length more → length more + left next ≤ 50001
fewer rows so_far more now next p e m earlier known few h _ = by next earlier known
  where
    longer : length more ≡ length so_far + 1
    longer = ap length m ∙ length-append so_far (p ∷ [])

    here : left now ≡ suc p
    here = ap left e

    by : (next : Option ℕ) → IfSome next (λ q. q < p) → IfSome next (λ q. q < length rows) → length more + left next ≤ 50001
    by None earlier known = cases (length so_far) refl
      where
        cases : (n : ℕ) → length so_far ≡ n → length more + 0 ≤ 50001
        cases zero k = omega (arith, longer)
        cases (suc n) k = let l = h (omega (arith, k)) in omega (arith, longer, here, l, k)
    by (Some q) earlier known = cases (length so_far) refl
      where
        cases : (n : ℕ) → length so_far ≡ n → length more + suc q ≤ 50001
        cases zero k = omega (arith, longer, known, few, k)
        cases (suc n) k = let l = h (omega (arith, k)) in omega (arith, longer, here, l, earlier)
