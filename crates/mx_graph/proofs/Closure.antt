-- What is reached is the least closed set.
use Rattle.std.proofs.Common.{◌≡◌, ℕ, zero, suc, ◌+◌, ◌==◌, ◌≤◌, ◌<◌, Bool, true, false, cond, ◌||◌, ◌⊎◌, inl, inr, List, [], ◌∷◌, ◌++◌, filter, flat_map, length, slice_index_or, refl, sym, ap, subst, ◌∙◌, arith, eq-eqb, eqb-true}
use Rattle.std.proofs.lemmas.Bool.{eqb-false}
use Rattle.std.specs.List.{All, list_any, range_with_len}
use Rattle.mx_graph.specs.Record.{Row, places, events_where, is_in}
use Rattle.mx_graph.specs.Graph.{reached_within, reached, IsClosed, IsLeastClosed, CitesDown}
use Rattle.mx_graph.proofs.Members.{In, in_append-left, in_append-right, in_append-cases, in_filter, in_filter-parts, in_flat_map, in_flat_map-from}

-- ---- the test of membership

pub or_cases : (a b : Bool) → (a || b) ≡ true → (a ≡ true) ⊎ (b ≡ true)
or_cases true b e = inl refl
or_cases false b e = inr e

pub or_left : (a b : Bool) → a ≡ true → (a || b) ≡ true
or_left true b e = refl
or_left false b e = absurd (cc e)

pub or_right : (a b : Bool) → b ≡ true → (a || b) ≡ true
or_right true b e = refl
or_right false b e = e

pub is_in-from : (x : ℕ) (xs : List ℕ) → In x xs → is_in xs x ≡ true
is_in-from x [] h = absurd h
is_in-from x (y ∷ ys) (inl e) = or_left (y == x) _ (eq-eqb y x (sym e))
is_in-from x (y ∷ ys) (inr h) = or_right (y == x) _ (is_in-from x ys h)

pub is_in-to : (x : ℕ) (xs : List ℕ) → is_in xs x ≡ true → In x xs
is_in-to x [] e = absurd (cc e)
is_in-to x (y ∷ ys) e = by (λ k. is_in-to x ys k) (or_cases (y == x) (is_in ys x) e)
  where
    by : (is_in ys x ≡ true → In x ys) → ((y == x) ≡ true) ⊎ (is_in ys x ≡ true) → In x (y ∷ ys)
    by later (inl k) = inl (sym (eqb-true y x k))
    by later (inr k) = inr (later k)

pub is_in-index : (xs : List ℕ) (k d : ℕ) → k < length xs → is_in xs (slice_index_or xs k d) ≡ true
is_in-index [] k d h = absurd (omega arith)
is_in-index (x ∷ xs) zero d h = or_left (x == x) _ (eq-eqb x x refl)
is_in-index (x ∷ xs) (suc k) d h = or_right (x == slice_index_or xs k d) _ (is_in-index xs k d (omega arith))

-- what holds of each number that is in a list holds of each element
pub all-in : (P : ℕ → Type 0) (xs : List ℕ) → ((y : ℕ) → is_in xs y ≡ true → P y) → All P xs
all-in P xs h k d l = h (slice_index_or xs k d) (is_in-index xs k d l)

-- ---- the places

in_range : (a n x : ℕ) → a ≤ x → x < a + n → In x (range_with_len a n)
in_range a zero x h k = absurd (omega arith)
in_range a (suc n) x h k = by (λ l. in_range (a + 1) n x l (omega arith)) (x == a) refl
  where
    below : (x == a) ≡ false → a + 1 ≤ x
    below e = let n = eqb-false x a e in omega arith

    by : (a + 1 ≤ x → In x (range_with_len (a + 1) n)) → (b : Bool) → (x == a) ≡ b → In x (range_with_len a (suc n))
    by later true e = inl (eqb-true x a e)
    by later false e = inr (later (below e))

pub in_places : (rows : List Row) (x : ℕ) → x < length rows → In x (places rows)
in_places rows x h = in_range 0 (length rows) x (omega arith) (omega arith)

pub range-parts : (a n x : ℕ) → In x (range_with_len a n) → (a ≤ x) × (x < a + n)
range-parts a zero x h = absurd h
range-parts a (suc n) x (inl e) = (omega arith, omega arith)
range-parts a (suc n) x (inr h) =
    let b = range-parts (a + 1) n x h in
    let low : a + 1 ≤ x = b.0 in
    let high : x < a + 1 + n = b.1 in
    (omega arith, omega arith)

-- ---- the rounds

module _ (rows : List Row) (cites : ℕ → List ℕ) (starts : List ℕ) where
  -- a start, or a member of the round, cites it
  abbrev IsCited : ℕ → ℕ → Type 0
  IsCited n y = (x : ℕ) × In x (starts ++ reached_within rows cites starts n) × In y (cites x)

  into : (n : ℕ) (y : ℕ) → y < length rows → IsCited n y → In y (reached_within rows cites starts (suc n))
  into n y h c =
      let cited = flat_map cites (starts ++ reached_within rows cites starts n) in
      in_filter (is_in cited) y (places rows) (in_places rows y h) (is_in-from y cited (in_flat_map cites c.0 y (starts ++ reached_within rows cites starts n) c.1 c.2))

  out : (n : ℕ) (y : ℕ) → In y (reached_within rows cites starts (suc n)) → IsCited n y
  out n y h =
      let cited = flat_map cites (starts ++ reached_within rows cites starts n) in
      in_flat_map-from cites y (starts ++ reached_within rows cites starts n) (is_in-to y cited ((in_filter-parts (is_in cited) y (places rows) h).1))

  -- what is closed has each round
  least : (test : ℕ → Bool) → IsClosed cites starts test → (n y : ℕ) → In y (reached_within rows cites starts n) → test y ≡ true
  least test closed zero y h = absurd h
  least test closed (suc n) y h = by (λ x k. least test closed n x k) (out n y h)
    where
      from : ((x : ℕ) → In x (reached_within rows cites starts n) → test x ≡ true) → (x : ℕ) → In x starts ⊎ In x (reached_within rows cites starts n) → (is_in starts x || test x) ≡ true
      from later x (inl k) = or_left (is_in starts x) (test x) (is_in-from x starts k)
      from later x (inr k) = or_right (is_in starts x) (test x) (later x k)

      by : ((x : ℕ) → In x (reached_within rows cites starts n) → test x ≡ true) → IsCited n y → test y ≡ true
      by later c = closed c.0 y (from later c.0 (in_append-cases c.0 starts (reached_within rows cites starts n) c.1)) (is_in-from y (cites c.0) c.2)

  module _ (down : CitesDown rows cites) where
    -- a place as near to the end as there were rounds is found by then
    settled : (n y : ℕ) → length rows ≤ y + n → In y (reached_within rows cites starts (suc n)) → In y (reached_within rows cites starts n)
    settled zero y h k =
        let c = out 0 y k in
        let d = down c.0 y (is_in-from y (cites c.0) c.2) in
        let l : y < length rows = d.0 in
        absurd (omega arith)
    settled (suc n) y h k = by (λ x l m. settled n x l m) (out (suc n) y k)
      where
        from : ((x : ℕ) → length rows ≤ x + n → In x (reached_within rows cites starts (suc n)) → In x (reached_within rows cites starts n)) → (x : ℕ) → y < x → In x starts ⊎ In x (reached_within rows cites starts (suc n)) → In x (starts ++ reached_within rows cites starts n)
        from later x l (inl m) = in_append-left x starts (reached_within rows cites starts n) m
        from later x l (inr m) = in_append-right x starts (reached_within rows cites starts n) (later x (omega arith) m)

        by : ((x : ℕ) → length rows ≤ x + n → In x (reached_within rows cites starts (suc n)) → In x (reached_within rows cites starts n)) → IsCited (suc n) y → In y (reached_within rows cites starts (suc n))
        by later c =
            let d = down c.0 y (is_in-from y (cites c.0) c.2) in
            into n y d.0 (c.0, from later c.0 d.1 (in_append-cases c.0 starts (reached_within rows cites starts (suc n)) c.1), c.2)

    closed : IsClosed cites starts (is_in (reached rows cites starts))
    closed x y h k =
        let d = down x y k in
        is_in-from y (reached rows cites starts)
        (settled (length rows) y (omega arith) (into (length rows) y d.0 (x, member (or_cases (is_in starts x) (is_in (reached rows cites starts) x) h), is_in-to y (cites x) k)))
      where
        member : (is_in starts x ≡ true) ⊎ (is_in (reached rows cites starts) x ≡ true) → In x (starts ++ reached rows cites starts)
        member (inl e) = in_append-left x starts (reached rows cites starts) (is_in-to x starts e)
        member (inr e) = in_append-right x starts (reached rows cites starts) (is_in-to x (reached rows cites starts) e)

pub reached-is_least : (rows : List Row) (cites : ℕ → List ℕ) (starts : List ℕ) → CitesDown rows cites → IsLeastClosed cites starts (is_in (reached rows cites starts))
reached-is_least rows cites starts down = (closed rows cites starts down, λ other c p h. least rows cites starts other c (length rows) p (is_in-to p (reached rows cites starts) h))

pub within-below : (rows : List Row) (cites : ℕ → List ℕ) (starts : List ℕ) (n y : ℕ) → In y (reached_within rows cites starts n) → y < length rows
within-below rows cites starts zero y h = absurd h
within-below rows cites starts (suc n) y h =
    let high : y < 0 + length rows = (range-parts 0 (length rows) y ((in_filter-parts (is_in (flat_map cites (starts ++ reached_within rows cites starts n))) y (places rows) h).0)).1 in
    omega arith

-- each event that is reached is one of the rows
pub reached-below : (rows : List Row) (cites : ℕ → List ℕ) (starts : List ℕ) → All (λ p. p < length rows) (reached rows cites starts)
reached-below rows cites starts =
    all-in (λ p. p < length rows) (reached rows cites starts) (λ y e. within-below rows cites starts (length rows) y (is_in-to y (reached rows cites starts) e))

-- ---- the same set by another test

pub same_tests : (f g : ℕ → Bool) (xs : List ℕ) → ((p : ℕ) → In p xs → f p ≡ g p) → filter f xs ≡ filter g xs
same_tests f g [] h = refl
same_tests f g (x ∷ xs) h = λ i. cond (h x (inl refl) i) (x ∷ same_tests f g xs (λ p k. h p (inr k)) i) (same_tests f g xs (λ p k. h p (inr k)) i)

pub one_answer : (a b : Bool) → (a ≡ true → b ≡ true) → (b ≡ true → a ≡ true) → a ≡ b
one_answer true b f g = sym (f refl)
one_answer false true f g = g refl
one_answer false false f g = refl

-- a filter of the places is the events that are among it
filter-members : (rows : List Row) (test : ℕ → Bool) → filter test (places rows) ≡ events_where rows (is_in (filter test (places rows)))
filter-members rows test = same_tests test (is_in (filter test (places rows))) (places rows)
    (λ p k. one_answer (test p) (is_in (filter test (places rows)) p)
    (λ e. is_in-from p (filter test (places rows)) (in_filter test p (places rows) k e))
    (λ e. (in_filter-parts test p (places rows) (is_in-to p (filter test (places rows)) e)).1))

pub reached-members : (rows : List Row) (cites : ℕ → List ℕ) (starts : List ℕ) (n : ℕ) → reached_within rows cites starts n ≡ events_where rows (is_in (reached_within rows cites starts n))
reached-members rows cites starts zero = sym (none (places rows))
  where
    none : (xs : List ℕ) → filter (is_in []) xs ≡ []
    none [] = refl
    none (x ∷ xs) = none xs
reached-members rows cites starts (suc n) = filter-members rows (is_in (flat_map cites (starts ++ reached_within rows cites starts n)))

-- two least closed sets have the same members
pub same_closed : (cites : ℕ → List ℕ) (starts : List ℕ) (f g : ℕ → Bool) → IsLeastClosed cites starts f → IsLeastClosed cites starts g → (p : ℕ) → f p ≡ g p
same_closed cites starts f g l m p = one_answer (f p) (g p) (l.1 g m.0 p) (m.1 f l.0 p)

-- for a program: a least closed set of places, however it was found, is what is reached
pub reached-by : (rows : List Row) (cites : ℕ → List ℕ) (starts : List ℕ) (test : ℕ → Bool) → CitesDown rows cites → IsLeastClosed cites starts test → events_where rows test ≡ reached rows cites starts
reached-by rows cites starts test down l =
    same_tests test (is_in (reached rows cites starts)) (places rows) (λ p k. same_closed cites starts test (is_in (reached rows cites starts)) l (reached-is_least rows cites starts down) p)
    ∙ sym (reached-members rows cites starts (length rows))

-- ---- what several reach is what each reaches

list_any-from : (test : ℕ → Bool) (x : ℕ) (xs : List ℕ) → In x xs → test x ≡ true → list_any test xs ≡ true
list_any-from test x [] h e = absurd h
list_any-from test x (y ∷ ys) (inl k) e = or_left (test y) _ (sym (ap test k) ∙ e)
list_any-from test x (y ∷ ys) (inr h) e = or_right (test y) _ (list_any-from test x ys h e)

list_any-to : (test : ℕ → Bool) (xs : List ℕ) → list_any test xs ≡ true → (x : ℕ) × In x xs × (test x ≡ true)
list_any-to test [] e = absurd (cc e)
list_any-to test (y ∷ ys) e = by (list_any-to test ys) (or_cases (test y) (list_any test ys) e)
  where
    by : (list_any test ys ≡ true → (x : ℕ) × In x ys × (test x ≡ true)) → (test y ≡ true) ⊎ (list_any test ys ≡ true) → (x : ℕ) × In x (y ∷ ys) × (test x ≡ true)
    by later (inl k) = (y, inl refl, k)
    by later (inr k) = let r = later k in (r.0, inr r.1, r.2)

module _ (rows : List Row) (cites : ℕ → List ℕ) (down : CitesDown rows cites) (starts : List ℕ) where
  abbrev some_reaches : ℕ → Bool
  some_reaches p = list_any (λ x. is_in (reached rows cites (x ∷ [])) p) starts

  some-closed : IsClosed cites starts some_reaches
  some-closed x y h k = by (or_cases (is_in starts x) (some_reaches x) h)
    where
      at : (s : ℕ) → In s starts → (is_in (s ∷ []) x || is_in (reached rows cites (s ∷ [])) x) ≡ true → some_reaches y ≡ true
      at s m e = list_any-from (λ s. is_in (reached rows cites (s ∷ [])) y) s starts m ((reached-is_least rows cites (s ∷ []) down).0 x y e k)

      by : (is_in starts x ≡ true) ⊎ (some_reaches x ≡ true) → some_reaches y ≡ true
      by (inl e) = at x (is_in-to x starts e) (or_left (is_in (x ∷ []) x) _ (is_in-from x (x ∷ []) (inl refl)))
      by (inr e) = let r = list_any-to (λ s. is_in (reached rows cites (s ∷ [])) x) starts e in at r.0 r.1 (or_right (is_in (r.0 ∷ []) x) _ r.2)

  some-least : (other : ℕ → Bool) → IsClosed cites starts other → (p : ℕ) → some_reaches p ≡ true → other p ≡ true
  some-least other c p e =
      let r = list_any-to (λ s. is_in (reached rows cites (s ∷ [])) p) starts e in
      (reached-is_least rows cites (r.0 ∷ []) down).1 other (narrower r.0 r.1) p r.2
    where
      narrower : (s : ℕ) → In s starts → IsClosed cites (s ∷ []) other
      narrower s m x y h k = c x y (by (or_cases (is_in (s ∷ []) x) (other x) h)) k
        where
          single : In x (s ∷ []) → is_in starts x ≡ true
          single (inl e) = is_in-from x starts (subst (λ w. In w starts) (sym e) m)
          single (inr e) = absurd e

          by : (is_in (s ∷ []) x ≡ true) ⊎ (other x ≡ true) → (is_in starts x || other x) ≡ true
          by (inl e) = or_left (is_in starts x) (other x) (single (is_in-to x (s ∷ []) e))
          by (inr e) = or_right (is_in starts x) (other x) e

  -- the chain of a list is the union of the chains of its members
  pub reached-each : (p : ℕ) → is_in (reached rows cites starts) p ≡ list_any (λ x. is_in (reached rows cites (x ∷ [])) p) starts
  reached-each p = same_closed cites starts (is_in (reached rows cites starts)) some_reaches (reached-is_least rows cites starts down) (some-closed, some-least) p

-- what holds of all of a list, of one that is in it
pub in-all : (P : ℕ → Type 0) (xs : List ℕ) (p : ℕ) → All P xs → is_in xs p ≡ true → P p
in-all P [] p h e = absurd (cc e)
in-all P (x ∷ xs) p h e = by (in-all P xs p (λ i d l. h (suc i) d (omega arith))) (or_cases (x == p) (is_in xs p) e)
  where
    by : (is_in xs p ≡ true → P p) → ((x == p) ≡ true) ⊎ (is_in xs p ≡ true) → P p
    by later (inl k) = subst P (eqb-true x p k) (h zero x (omega arith))
    by later (inr k) = later k
