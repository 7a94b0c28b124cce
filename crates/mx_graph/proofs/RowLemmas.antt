-- Rows with one more at the end.
use Rattle.std.proofs.Common.{◌≡◌, ℕ, suc, ◌+◌, ◌-◌, ◌==◌, ◌≤◌, ◌<◌, nat_lt, Bool, true, false, cond, ◌&&◌, ◌⊎◌, inl, inr, List, [], ◌∷◌, ◌++◌, length, get_or, filter_map, position, bytes_eq, Option, Some, None, IfSome, is_some, refl, sym, ap, subst, ◌∙◌, arith, eqb-true, length-append}
use Rattle.std.proofs.Math.ListN.{get_or-eq_default}
use Rattle.std.proofs.lemmas.Bool.{and_parts, cases_lt, eqb-false}
use Rattle.std.proofs.lemmas.Bool.Decides.{nat_tests}
use Rattle.std.proofs.lemmas.List.{get_or_append_left, get_or-append_right}
use Rattle.std.proofs.lemmas.List.Folds.{position_or_len_push}
use Rattle.std.proofs.lemmas.List.Quantifiers.{position-Some}
use Rattle.std.proofs.lemmas.List.Sums.{prefix_len-le-length}
use Rattle.std.specs.List.{cons_option, list_all, position_or_len}
use Rattle.std.specs.Option.{option_or}
use Rattle.mx_graph.specs.Record.{Row, no_row, row, place_of, is_in}
use Rattle.mx_graph.specs.Adding.{is_known}
use Rattle.mx_graph.proofs.Closure.{or_cases}

-- ---- the first place that passes

place_numbers : (n m k l : ℕ) (c : Bool) → n ≤ m → l ≡ m + 1 → k ≡ cond (n == m) (m + cond c 0 1) n
    → cond (nat_lt k l) (Some k) None ≡ option_or (cond (nat_lt n m) (Some n) None) (cond c (Some m) None)
place_numbers n m k l true h e f = grind (arith, nat_tests)
place_numbers n m k l false h e f = grind (arith, nat_tests)

pub position-push : {X : Type 0} (p : X → Bool) (xs : List X) (y : X) → position p (xs ++ y ∷ []) ≡ option_or (position p xs) (cond (p y) (Some (length xs)) None)
position-push p xs y =
    place_numbers (position_or_len p xs) (length xs) (position_or_len p (xs ++ y ∷ [])) (length (xs ++ y ∷ [])) (p y) (prefix_len-le-length _ xs) (length-append xs (y ∷ [])) (position_or_len_push p xs y)

pub place_of-push : (rows : List Row) (r : Row) (id : List ℕ) → place_of (rows ++ r ∷ []) id ≡ option_or (place_of rows id) (cond (bytes_eq r.id id) (Some (length rows)) None)
place_of-push rows r id = position-push (λ s. bytes_eq s.id id) rows r

option_or-known : {A : Type 0} (a b : Option A) → is_some a ≡ true → option_or a b ≡ a
option_or-known None b e = absurd (cc e)
option_or-known (Some x) b e = refl

-- an event that is known keeps its place
pub place_of-known : (rows : List Row) (r : Row) (id : List ℕ) → is_known rows id ≡ true → place_of (rows ++ r ∷ []) id ≡ place_of rows id
place_of-known rows r id e = place_of-push rows r id ∙ option_or-known (place_of rows id) _ e

pub place_of-below : (rows : List Row) (id : List ℕ) (p : ℕ) → place_of rows id ≡ Some p → p < length rows
place_of-below rows id p e = (position-Some (λ s. bytes_eq s.id id) rows p (row rows (length rows)) e).0

pub place-bound : (rows : List Row) (id : List ℕ) → IfSome (place_of rows id) (λ p. p < length rows)
place-bound rows id = by (place_of rows id) refl
  where
    by : (o : Option ℕ) → place_of rows id ≡ o → IfSome o (λ p. p < length rows)
    by None e = tt
    by (Some p) e = place_of-below rows id p e

-- ---- the row at a place

module _ (rows : List Row) (r : Row) where
  pub row-new : row (rows ++ r ∷ []) (length rows) ≡ r
  row-new = get_or-append_right rows (r ∷ []) (length rows) (length rows) no_row refl (omega arith) ∙ ap (λ n. get_or (r ∷ []) n no_row) (same (length rows))
    where
      same : (n : ℕ) → n - n ≡ 0
      same n = omega arith

  -- every other place keeps its row
  pub row-other : (p : ℕ) → (p == length rows) ≡ false → row (rows ++ r ∷ []) p ≡ row rows p
  row-other p e = by (cases_lt p (length rows))
    where
      by : (p < length rows) ⊎ (length rows ≤ p) → row (rows ++ r ∷ []) p ≡ row rows p
      by (inl l) = get_or_append_left rows (r ∷ []) no_row p l
      by (inr l) =
          let differ = eqb-false p (length rows) e in
          let more : p - length rows ≡ suc (p - length rows - 1) = omega arith in
          get_or-append_right rows (r ∷ []) (length rows) p no_row refl l ∙ ap (λ n. get_or (r ∷ []) n no_row) more ∙ sym (get_or-eq_default rows no_row {n = p} l)

-- ---- lists of ids

pub places-known : (rows : List Row) (r : Row) (ids : List (List ℕ)) → list_all (is_known rows) ids ≡ true → filter_map (place_of (rows ++ r ∷ [])) ids ≡ filter_map (place_of rows) ids
places-known rows r [] h = refl
places-known rows r (id ∷ ids) h =
    let parts = and_parts (is_known rows id) (list_all (is_known rows) ids) h in
    λ i. cons_option (place_of-known rows r id parts.0 i) (places-known rows r ids parts.1 i)

pub all-known : (rows : List Row) (r : Row) (ids : List (List ℕ)) → list_all (is_known rows) ids ≡ true → list_all (is_known (rows ++ r ∷ [])) ids ≡ true
all-known rows r [] h = refl
all-known rows r (id ∷ ids) h =
    let parts = and_parts (is_known rows id) (list_all (is_known rows) ids) h in
    λ i. (ap is_some (place_of-known rows r id parts.0) ∙ parts.0) i && all-known rows r ids parts.1 i

pub places-below : (rows : List Row) (ids : List (List ℕ)) (y : ℕ) → is_in (filter_map (place_of rows) ids) y ≡ true → y < length rows
places-below rows [] y h = absurd (cc h)
places-below rows (id ∷ ids) y h = by (places-below rows ids y) (place_of rows id) refl h
  where
    here : (is_in (filter_map (place_of rows) ids) y ≡ true → y < length rows) → (p : ℕ) → place_of rows id ≡ Some p → ((p == y) ≡ true) ⊎ (is_in (filter_map (place_of rows) ids) y ≡ true) → y < length rows
    here later p e (inl k) = subst (λ w. w < length rows) (eqb-true p y k) (place_of-below rows id p e)
    here later p e (inr k) = later k

    by : (is_in (filter_map (place_of rows) ids) y ≡ true → y < length rows) → (o : Option ℕ) → place_of rows id ≡ o → is_in (cons_option o (filter_map (place_of rows) ids)) y ≡ true → y < length rows
    by later None e k = later k
    by later (Some p) e k = here later p e (or_cases (p == y) (is_in (filter_map (place_of rows) ids) y) k)
