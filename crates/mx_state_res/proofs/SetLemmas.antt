-- Rising lists as sets of events.
use Rattle.std.proofs.Common.{◌≡◌, ℕ, zero, suc, ◌+◌, ◌==◌, ◌≤◌, ◌<◌, Bool, true, false, cond, ◌&&◌, ◌||◌, inl, inr, List, [], ◌∷◌, ◌++◌, length, get_or, filter, flat_map, map, Result, Ok, Err, is_ok, refl, sym, ap, subst, ◌∙◌, append_assoc, arith, eq-eqb, eqb-true, Bor}
use Rattle.std.proofs.lemmas.Bool.{cases_lt}
use Rattle.std.proofs.lemmas.List.Folds.{list_any-append}
use Rattle.std.proofs.lemmas.List.Sorted.{searched}
use Rattle.std.specs.Ordering.{nat_cmp}
use Rattle.std.specs.List.{All, list_any, list_all}
use Rattle.std.specs.List.Sorted.{IsBinarySearchResult}
use Rattle.mx_graph.specs.Record.{Row, is_in, places, events_where}
use Rattle.mx_graph.specs.Edges.{Rises}
use Rattle.mx_graph.proofs.Members.{In, in_filter-parts}
use Rattle.mx_graph.proofs.Closure.{or_left, or_right, same_tests, range-parts, in_places, is_in-from, is_in-to}
use Rattle.mx_graph.proofs.ReachedLemmas.{rising-filter}
use Rattle.mx_orders.specs.Lists.{Distinct}
use Rattle.mx_graph.specs.StateMap.{State}

-- the states behind some references
abbrev pub shown : List (Bor State) → List State
shown bs = map (λ s. s.now) bs

-- ---- members

pub is_in-append : (xs ys : List ℕ) (p : ℕ) → is_in (xs ++ ys) p ≡ (is_in xs p || is_in ys p)
is_in-append xs ys p = list_any-append (λ x. x == p) xs ys

in_cond : (b : Bool) (x : ℕ) (xs : List ℕ) (p : ℕ) → is_in (cond b (x ∷ xs) xs) p ≡ ((b && (x == p)) || is_in xs p)
in_cond true x xs p = refl
in_cond false x xs p = refl

and-false : (s : Bool) → (s && false) ≡ false
and-false true = refl
and-false false = refl

kept : (tx a s tp : Bool) → (a ≡ true → tx ≡ tp) → ((tx && a) || (s && tp)) ≡ ((a || s) && tp)
kept true false s tp h = refl
kept false false s tp h = refl
kept true true s tp h = h refl
kept false true s tp h = ap (λ z. s && z) (sym (h refl)) ∙ and-false s ∙ h refl

pub is_in-filter : (test : ℕ → Bool) (xs : List ℕ) (p : ℕ) → is_in (filter test xs) p ≡ (is_in xs p && test p)
is_in-filter test [] p = refl
is_in-filter test (x ∷ xs) p =
    in_cond (test x) x (filter test xs) p ∙ ap (λ b. (test x && (x == p)) || b) (is_in-filter test xs p)
    ∙ kept (test x) (x == p) (is_in xs p) (test p) (λ e. ap test (eqb-true x p e))

module _ {A : Type 0} (P : A → Type 0) where
  pub all-at : (xs : List A) → All P xs → (x : A) → In x xs → P x
  all-at [] h x m = absurd m
  all-at (y ∷ ys) h x (inl e) = subst P (sym e) (h zero y (omega arith))
  all-at (y ∷ ys) h x (inr m) = all-at ys (λ k d l. h (suc k) d (omega arith)) x m

  pub all-of : (xs : List A) → ((x : A) → In x xs → P x) → All P xs
  all-of [] h k d l = absurd (omega arith)
  all-of (x ∷ xs) h zero d l = h x (inl refl)
  all-of (x ∷ xs) h (suc k) d l = all-of xs (λ y m. h y (inr m)) k d (omega arith)

-- ---- lists by a map

-- a loop's step: what x gives is added to what was found
pub flat_map-step : {A B : Type 0} (g : A → List B) (found new : List B) (xs ys : List A) (x : A) → xs ≡ x ∷ ys → new ≡ found ++ g x → new ++ flat_map g ys ≡ found ++ flat_map g xs
flat_map-step g found new xs ys x d e = ap (λ zs. zs ++ flat_map g ys) e ∙ append_assoc found (g x) (flat_map g ys) ∙ ap (λ zs. found ++ flat_map g zs) (sym d)

module _ {A B : Type 0} (f : A → B) where
  pub list_all-map : (test : B → Bool) (xs : List A) → list_all (λ x. test (f x)) xs ≡ list_all test (map f xs)
  list_all-map test [] = refl
  list_all-map test (x ∷ xs) = ap (λ b. test (f x) && b) (list_all-map test xs)

  pub list_any-map : (test : B → Bool) (xs : List A) → list_any (λ x. test (f x)) xs ≡ list_any test (map f xs)
  list_any-map test [] = refl
  list_any-map test (x ∷ xs) = ap (λ b. test (f x) || b) (list_any-map test xs)

  pub flat_map-map : {C : Type 0} (g : B → List C) (xs : List A) → flat_map (λ x. g (f x)) xs ≡ flat_map g (map f xs)
  flat_map-map g [] = refl
  flat_map-map g (x ∷ xs) = ap (λ ys. g (f x) ++ ys) (flat_map-map g xs)

  pub map-map : {C : Type 0} (g : B → C) (xs : List A) → map (λ x. g (f x)) xs ≡ map g (map f xs)
  map-map g [] = refl
  map-map g (x ∷ xs) = ap (λ ys. g (f x) ∷ ys) (map-map g xs)

-- ---- rising lists

pub rises-distinct : (xs : List ℕ) → Rises xs → Distinct xs
rises-distinct [] r = tt
rises-distinct (x ∷ xs) r = (λ m. let l : x < x = r.0 x (is_in-from x xs m) in omega arith, rises-distinct xs r.1)

in_filtered : (test : ℕ → Bool) (xs : List ℕ) (y : ℕ) → is_in (filter test xs) y ≡ true → is_in xs y ≡ true
in_filtered test xs y e = is_in-from y xs (in_filter-parts test y xs (is_in-to y (filter test xs) e)).0

pub rises-filter : (test : ℕ → Bool) (xs : List ℕ) → Rises xs → Rises (filter test xs)
rises-filter test [] r = tt
rises-filter test (x ∷ xs) r = by (test x) (rises-filter test xs r.1)
  where
    by : (b : Bool) → Rises (filter test xs) → Rises (cond b (x ∷ filter test xs) (filter test xs))
    by true later = (λ y m. r.0 y (in_filtered test xs y m), later)
    by false later = later

-- ---- a search in a rising list

at-place : (xs : List ℕ) (k : ℕ) → k < length xs → is_in xs (get_or xs k 0) ≡ true
at-place [] k h = absurd (omega arith)
at-place (x ∷ xs) zero h = or_left (x == x) _ (eq-eqb x x refl)
at-place (x ∷ xs) (suc k) h = or_right (x == get_or xs k 0) _ (at-place xs k (omega arith))

place-in : (x : ℕ) (xs : List ℕ) → In x xs → (k : ℕ) × (k < length xs) × (get_or xs k 0 ≡ x)
place-in x [] m = absurd m
place-in x (y ∷ ys) (inl e) = (zero, omega arith, sym e)
place-in x (y ∷ ys) (inr m) = let r = place-in x ys m in let l : r.0 < length ys = r.1 in (suc r.0, omega arith, r.2)

pub rises-places : (xs : List ℕ) → Rises xs → (i j : ℕ) → i ≤ j → j < length xs → get_or xs i 0 ≤ get_or xs j 0
rises-places [] r i j h l = absurd (omega arith)
rises-places (x ∷ xs) r zero zero h l = omega arith
rises-places (x ∷ xs) r zero (suc j) h l = let m : x < get_or xs j 0 = r.0 (get_or xs j 0) (at-place xs j (omega arith)) in omega arith
rises-places (x ∷ xs) r (suc i) zero h l = absurd (omega arith)
rises-places (x ∷ xs) r (suc i) (suc j) h l = rises-places xs r.1 i j (omega arith) (omega arith)

pub search-is : (xs : List ℕ) (x : ℕ) (r : Result ℕ ℕ) → Rises xs → IsBinarySearchResult (λ y. nat_cmp y x) xs r → is_ok r ≡ is_in xs x
search-is xs x (Ok i) rises h = let f = searched xs x (Ok i) h (rises-places xs rises) in sym (subst (λ y. is_in xs y ≡ true) f.1 (at-place xs i f.0))
search-is xs x (Err i) rises h = sym (by (is_in xs x) refl)
  where
    by : (b : Bool) → is_in xs x ≡ b → is_in xs x ≡ false
    by true e =
        let f = searched xs x (Err i) h (rises-places xs rises) in
        let k = place-in x xs (is_in-to x xs e) in
        let within : k.0 < length xs = k.1 in
        let is : get_or xs k.0 0 ≡ x = k.2 in
        absurd (elim (cases_lt k.0 i) [ inl l ↦ (let m : get_or xs k.0 0 < x = f.1 k.0 l in omega arith) | inr l ↦ (let m : x < get_or xs k.0 0 = f.2 k.0 l within in omega arith) ])
    by false e = e

-- ---- a rising list as the events of a record that are in it

-- a rising list of events of a record, by the test of its members
pub rising-is : (rows : List Row) (xs : List ℕ) (test : ℕ → Bool) → Rises xs → ((p : ℕ) → is_in xs p ≡ true → p < length rows) → ((p : ℕ) → is_in xs p ≡ test p) → xs ≡ events_where rows test
rising-is rows xs test r h same =
    sym (rising-filter 0 (length rows) xs r (λ y e. let l : y < length rows = h y e in (omega arith, omega arith)))
    ∙ same_tests (is_in xs) test (places rows) (λ p k. same p)

pub where-is : (rows : List Row) (test : ℕ → Bool) (p : ℕ) → (test p ≡ true → p < length rows) → is_in (events_where rows test) p ≡ test p
where-is rows test p h = is_in-filter test (places rows) p ∙ by (test p) refl
  where
    by : (b : Bool) → test p ≡ b → (is_in (places rows) p && b) ≡ b
    by true e = ap (λ a. a && true) (is_in-from p (places rows) (in_places rows p (h e)))
    by false e = and-false (is_in (places rows) p)

-- a set of events has events of the record alone
pub where-known : (rows : List Row) (test : ℕ → Bool) (p : ℕ) → is_in (events_where rows test) p ≡ true → p < length rows
where-known rows test p e =
    let b = range-parts 0 (length rows) p (in_filter-parts test p (places rows) (is_in-to p (events_where rows test) e)).0 in
    let high : p < 0 + length rows = b.1 in
    omega arith
