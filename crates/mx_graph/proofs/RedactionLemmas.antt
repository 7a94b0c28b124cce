-- Redactions by what they name, with one row more and with one row less.
use Rattle.std.proofs.Common.{◌≡◌, ℕ, zero, suc, ◌+◌, ◌-◌, ◌==◌, ◌<◌, Bool, true, false, cond, List, [], ◌∷◌, ◌++◌, length, filter, take, codes, if◌then◌else◌, bytes_eq, Option, Some, None, refl, sym, ap, ◌∙◌, arith, eqb-true, length-append}
use Rattle.std.proofs.lemmas.List.{append-nil}
use Rattle.std.proofs.lemmas.List.Elements.{filter-append}
use Rattle.std.specs.List.{All, range_with_len}
use Rattle.mx_redact.specs.Fields.{Event}
use Rattle.mx_pdu.specs.Event.{has_kind, redacts_of}
use Rattle.mx_graph.specs.Edges.{Rises}
use Rattle.mx_graph.specs.Record.{Row, places, events_where, names_id, names_in_redaction}
use Rattle.mx_graph.specs.Redactions.{with_event, without_event}
use Rattle.mx_graph.proofs.Closure.{all-in, is_in-to, range-parts, same_tests}
use Rattle.mx_graph.proofs.Members.{In, in_filter-parts}
use Rattle.mx_graph.proofs.RowLemmas.{row-new, row-other}

-- what an event names, by the id that it names where it is a redaction
pub names-target : (e : Event) (o : Option (List ℕ)) → o ≡ (if has_kind (codes "m.room.redaction") e then redacts_of e else None) → (t : List ℕ) → o ≡ Some t → (id : List ℕ) → names_id id e ≡ bytes_eq t id
names-target e o h t s id = by (has_kind (codes "m.room.redaction") e) refl
  where
    is : (if has_kind (codes "m.room.redaction") e then redacts_of e else None) ≡ Some t
    is = sym h ∙ s

    by : (b : Bool) → has_kind (codes "m.room.redaction") e ≡ b → names_id id e ≡ bytes_eq t id
    by true k = rw k (let f : redacts_of e ≡ Some t = rw k at is in rw f refl)
    by false k = let f : None ≡ Some t = rw k at is in absurd (cc f)

-- ---- one row more

range-last : (a n : ℕ) → range_with_len a (suc n) ≡ range_with_len a n ++ (a + n) ∷ []
range-last a zero = ap (λ m. m ∷ []) (omega arith)
range-last a (suc n) = ap (λ ms. a ∷ ms) (range-last (a + 1) n ∙ ap (λ m. range_with_len (a + 1) n ++ m ∷ []) (omega arith))

module _ (rows : List Row) (r : Row) where
  places-push : places (rows ++ r ∷ []) ≡ places rows ++ length rows ∷ []
  places-push =
      let more : length (rows ++ r ∷ []) ≡ suc (length rows) = (let e : length (rows ++ r ∷ []) ≡ length rows + 1 = length-append rows (r ∷ []) in omega arith) in
      ap (range_with_len 0) more ∙ range-last 0 (length rows) ∙ ap (λ m. range_with_len 0 (length rows) ++ m ∷ []) (from_zero (length rows))
    where
      from_zero : (n : ℕ) → 0 + n ≡ n
      from_zero n = omega arith

  module _ (id : List ℕ) where
    before : (p : ℕ) → In p (places rows) → names_in_redaction (rows ++ r ∷ []) id p ≡ names_in_redaction rows id p
    before p h = ap (λ (s : Row). names_id id s.event) (row-other rows r p (lower (p == length rows) refl))
      where
        low : p < length rows
        low = let b = (range-parts 0 (length rows) p h).1 in omega (arith, b)

        lower : (b : Bool) → (p == length rows) ≡ b → (p == length rows) ≡ false
        lower true e = let f : p ≡ length rows = eqb-true p (length rows) e in absurd (let l : p < length rows = low in omega arith)
        lower false e = e

    last : names_in_redaction (rows ++ r ∷ []) id (length rows) ≡ names_id id r.event
    last = ap (λ (s : Row). names_id id s.event) (row-new rows r)

    pub redactions-push : events_where (rows ++ r ∷ []) (names_in_redaction (rows ++ r ∷ []) id) ≡ with_event r.event (length rows) id (events_where rows (names_in_redaction rows id))
    redactions-push =
        ap (filter (names_in_redaction (rows ++ r ∷ []) id)) places-push
        ∙ filter-append (names_in_redaction (rows ++ r ∷ []) id) (places rows) (length rows ∷ [])
        ∙ (λ i. same_tests (names_in_redaction (rows ++ r ∷ []) id) (names_in_redaction rows id) (places rows) before i ++ cond (last i) (length rows ∷ []) [])
        ∙ by (names_id id r.event) (events_where rows (names_in_redaction rows id))
      where
        by : (b : Bool) (numbers : List ℕ) → numbers ++ cond b (length rows ∷ []) [] ≡ cond b (numbers ++ length rows ∷ []) numbers
        by true numbers = refl
        by false numbers = append-nil numbers

    -- ---- one row less

    pub redactions-pop : without_event r.event id (events_where (rows ++ r ∷ []) (names_in_redaction (rows ++ r ∷ []) id)) ≡ events_where rows (names_in_redaction rows id)
    redactions-pop = ap (without_event r.event id) redactions-push ∙ by (names_id id r.event) (events_where rows (names_in_redaction rows id))
      where
        take-all : (xs : List ℕ) (x : ℕ) → take (length xs) (xs ++ x ∷ []) ≡ xs
        take-all [] x = refl
        take-all (y ∷ ys) x = ap (λ zs. y ∷ zs) (take-all ys x)

        by : (b : Bool) (numbers : List ℕ)
            → cond b (take (length (cond b (numbers ++ length rows ∷ []) numbers) - 1) (cond b (numbers ++ length rows ∷ []) numbers)) (cond b (numbers ++ length rows ∷ []) numbers) ≡ numbers
        by true numbers =
            let more : length (numbers ++ length rows ∷ []) ≡ length numbers + 1 = length-append numbers (length rows ∷ []) in
            let n : length (numbers ++ length rows ∷ []) - 1 ≡ length numbers = omega arith in
            ap (λ m. take m (numbers ++ length rows ∷ [])) n ∙ take-all numbers (length rows)
        by false numbers = refl

-- ---- the events that pass a test

pub where-below : (rows : List Row) (test : ℕ → Bool) → All (λ p. p < length rows) (events_where rows test)
where-below rows test =
    all-in (λ p. p < length rows) (events_where rows test)
    (λ p e. let b = (range-parts 0 (length rows) p (in_filter-parts test p (places rows) (is_in-to p (events_where rows test) e)).0).1 in omega (arith, b))

pub where-rises : (rows : List Row) (test : ℕ → Bool) → Rises (events_where rows test)
where-rises rows test = from 0 (length rows)
  where
    from : (a n : ℕ) → Rises (filter test (range_with_len a n))
    from a zero = tt
    from a (suc n) = by (test a) (from (a + 1) n)
      where
        by : (b : Bool) → Rises (filter test (range_with_len (a + 1) n)) → Rises (cond b (a ∷ filter test (range_with_len (a + 1) n)) (filter test (range_with_len (a + 1) n)))
        by true later =
            (λ y e. let b = (range-parts (a + 1) n y (in_filter-parts test y (range_with_len (a + 1) n) (is_in-to y (filter test (range_with_len (a + 1) n)) e)).0).0 in omega (arith, b), later)
        by false later = later
