-- A rising list that is the least closed set is what is reached.
use Rattle.std.proofs.Common.{◌≡◌, ℕ, zero, suc, ◌+◌, ◌==◌, ◌≤◌, ◌<◌, nat_lt, Bool, true, false, cond, ◌||◌, ◌⊎◌, inl, inr, List, [], ◌∷◌, length, filter, refl, sym, ap, subst, ◌∙◌, arith, eq-eqb, eqb-true}
use Rattle.std.proofs.lemmas.Bool.{eqb-false}
use Rattle.std.proofs.lemmas.Bool.Decides.{nat_tests}
use Rattle.std.specs.List.{range_with_len}
use Rattle.mx_graph.specs.Record.{Row, is_in, event, prev_events, auth_events}
use Rattle.mx_graph.specs.Graph.{IsLeastClosed, CitesDown, ClosuresAreLeast, reached, ancestors, auth_chain}
use Rattle.mx_graph.specs.Edges.{Rises}
use Rattle.mx_graph.proofs.Closure.{or_cases, or_left, or_right, same_tests, range-parts, reached-by, reached-is_least}

-- ---- a rising list as a part of the numbers from a on

no_numbers : (ns : List ℕ) → filter (is_in []) ns ≡ []
no_numbers [] = refl
no_numbers (n ∷ ns) = no_numbers ns

-- a number that is before all of a rising list isn't in it
not_in : (p : ℕ) (xs : List ℕ) → ((y : ℕ) → is_in xs y ≡ true → p < y) → is_in xs p ≡ false
not_in p xs h = by (is_in xs p) refl
  where
    by : (b : Bool) → is_in xs p ≡ b → is_in xs p ≡ false
    by true e = let l : p < p = h p e in absurd (omega arith)
    by false e = e

-- a rising list of the n numbers from a on is the part of them that is in it
abbrev pub IsPart : ℕ → ℕ → Type 0
IsPart a n = (xs : List ℕ) → Rises xs → ((y : ℕ) → is_in xs y ≡ true → (a ≤ y) × (y < a + n)) → filter (is_in xs) (range_with_len a n) ≡ xs

pub rising-filter : (a n : ℕ) → IsPart a n
rising-filter a n [] r h = no_numbers (range_with_len a n)
rising-filter a zero (x ∷ xs) r h = let b = h x (or_left (x == x) _ (eq-eqb x x refl)) in let low : a ≤ x = b.0 in let high : x < a + 0 = b.1 in absurd (omega arith)
rising-filter a (suc n) (x ∷ xs) r h = by (λ ys s k. rising-filter (a + 1) n ys s k) (x == a) refl
  where
    first : (a ≤ x) × (x < a + suc n)
    first = h x (or_left (x == x) _ (eq-eqb x x refl))

    later : (y : ℕ) → is_in xs y ≡ true → x < y
    later = r.0

    within : (y : ℕ) → is_in xs y ≡ true → (a ≤ y) × (y < a + suc n)
    within y e = h y (or_right (x == y) (is_in xs y) e)

    -- the first number is a
    here : IsPart (a + 1) n → x ≡ a → filter (is_in (x ∷ xs)) (range_with_len (a + 1) n) ≡ xs
    here next e =
        same_tests (is_in (x ∷ xs)) (is_in xs) (range_with_len (a + 1) n)
        (λ p k. ap (λ b. b || is_in xs p) (other p (range-parts (a + 1) n p k).0))
        ∙ next xs r.1 (λ y m. above_first y m)
      where
        other : (p : ℕ) → a + 1 ≤ p → (x == p) ≡ false
        other p l = grind (arith, nat_tests)

        above_first : (y : ℕ) → is_in xs y ≡ true → (a + 1 ≤ y) × (y < a + 1 + n)
        above_first y m = let l : x < y = later y m in let b = within y m in let u : y < a + suc n = b.1 in (omega arith, omega arith)

    -- it is above a
    past : IsPart (a + 1) n → a < x → filter (is_in (x ∷ xs)) (range_with_len (a + 1) n) ≡ x ∷ xs
    past next l = next (x ∷ xs) r (λ y m. above_a y (or_cases (x == y) (is_in xs y) m))
      where
        above_a : (y : ℕ) → ((x == y) ≡ true) ⊎ (is_in xs y ≡ true) → (a + 1 ≤ y) × (y < a + 1 + n)
        above_a y (inl e) = let f : x ≡ y = eqb-true x y e in let u : x < a + suc n = first.1 in (omega arith, omega arith)
        above_a y (inr e) = let g : x < y = later y e in let b = within y e in let u : y < a + suc n = b.1 in (omega arith, omega arith)

    by : IsPart (a + 1) n → (b : Bool) → (x == a) ≡ b → filter (is_in (x ∷ xs)) (range_with_len a (suc n)) ≡ x ∷ xs
    by next true e =
        ap (λ b. cond b (a ∷ filter (is_in (x ∷ xs)) (range_with_len (a + 1) n)) (filter (is_in (x ∷ xs)) (range_with_len (a + 1) n))) (or_left (x == a) (is_in xs a) e)
        ∙ ap (λ ys. a ∷ ys) (here next (eqb-true x a e)) ∙ ap (λ w. w ∷ xs) (sym (eqb-true x a e))
    by next false e =
        let differ = eqb-false x a e in
        let low : a ≤ x = first.0 in
        let l : a < x = omega arith in
        ap (λ b. cond b (a ∷ filter (is_in (x ∷ xs)) (range_with_len (a + 1) n)) (filter (is_in (x ∷ xs)) (range_with_len (a + 1) n)))
        (not_in a (x ∷ xs) (λ y m. by_member l y (or_cases (x == y) (is_in xs y) m)))
        ∙ past next l
      where
        by_member : a < x → (y : ℕ) → ((x == y) ≡ true) ⊎ (is_in xs y ≡ true) → a < y
        by_member l y (inl f) = let g : x ≡ y = eqb-true x y f in omega arith
        by_member l y (inr f) = let g : x < y = later y f in omega arith

-- ---- what is reached

pub reached-rising : (rows : List Row) (cites other : ℕ → List ℕ) (starts found : List ℕ) → CitesDown rows cites → ((p : ℕ) → other p ≡ cites p) → Rises found → ((all : ℕ → Bool) → IsLeastClosed other starts all → (p : ℕ) → is_in found p ≡ all p) → found ≡ reached rows cites starts
reached-rising rows cites other starts found down same rises is_all =
    sym (rising-filter 0 (length rows) found rises (λ y e. (omega arith, in_rows y e))) ∙ reached-by rows cites starts (is_in found) down closed
  where
    all : ℕ → Bool
    all = is_in (reached rows cites starts)

    agrees : (p : ℕ) → is_in found p ≡ all p
    agrees = is_all all (subst (λ f. IsLeastClosed f starts all) (λ i p. sym (same p) i) (reached-is_least rows cites starts down))

    closed : IsLeastClosed cites starts (is_in found)
    closed = subst (IsLeastClosed cites starts) (λ i p. sym (agrees p) i) (reached-is_least rows cites starts down)

    inside : ℕ → Bool
    inside y = nat_lt y (length rows)

    in_rows : (y : ℕ) → is_in found y ≡ true → y < 0 + length rows
    in_rows y e =
        let t : nat_lt y (length rows) ≡ true = closed.1 (λ q. nat_lt q (length rows)) (λ x z h k. let d : z < length rows = (down x z k).0 in grind (arith, nat_tests)) y e in
        grind (arith, nat_tests)

pub closures-least : ClosuresAreLeast
unfolding ancestors auth_chain
closures-least rows starts sound =
    (reached-is_least rows (λ p. prev_events rows (event rows p)) starts sound.prev, reached-is_least rows (λ p. auth_events rows (event rows p)) starts sound.auth)
