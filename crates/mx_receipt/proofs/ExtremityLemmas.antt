-- The forward extremities of a record that takes one more event.
use Rattle.std.proofs.Common.{◌≡◌, ◌<◌, ◌≤◌, ◌+◌, ◌||◌, ◌++◌, ℕ, zero, suc, Bool, true, false, not, cond, List, [], ◌∷◌, filter, length, refl, sym, ap, subst, ◌∙◌, arith}
use Rattle.std.proofs.lemmas.List.{get_or_append_left, length-append, length-map, map-append, append-nil}
use Rattle.std.proofs.lemmas.List.Elements.{filter-append}
use Rattle.std.specs.Prelude.{slice_index_or}
use Rattle.std.specs.List.{range_with_len}
use Rattle.mx_graph.specs.Edges.{IsAllFrom, Rises}
use Rattle.mx_graph.specs.Graph.{IsSound, ancestors}
use Rattle.mx_graph.specs.Record.{Row, is_in, places, prev_events}
use Rattle.mx_graph.proofs.Closure.{is_in-from, is_in-to, in_places, range-parts, same_tests}
use Rattle.mx_graph.proofs.Members.{in_filter, in_filter-parts}
use Rattle.mx_receipt.specs.Receipt.{Kept, is_accepted, is_rejected, rows_of, kept_at, forward_extremities}
use Rattle.mx_receipt.specs.Judgements.{Judged, leads_on, kept_of, verdicts_of}
use Rattle.mx_receipt.specs.declared.verdicts.Verdict.{Verdict}
use Rattle.mx_receipt.specs.declared.verdicts.Verdict.TheVariants.{Accepted}
use Rattle.mx_state_res.proofs.SetLemmas.{rises-filter}
use Rattle.mx_receipt.proofs.GrowthLemmas.{ancestors-below, ancestors-longer, ancestors-with, covered-below}
use Rattle.mx_receipt.proofs.RecordLemmas.{at-seam}

-- ---- lists

range-last : (a n : ℕ) → range_with_len a (suc n) ≡ range_with_len a n ++ (a + n) ∷ []
range-last a zero = ap (λ m. m ∷ []) (omega arith)
range-last a (suc n) = ap (λ ms. a ∷ ms) (range-last (a + 1) n ∙ ap (λ m. range_with_len (a + 1) n ++ m ∷ []) (omega arith))

places-push : (rows : List Row) (r : Row) → places (rows ++ r ∷ []) ≡ places rows ++ length rows ∷ []
places-push rows r =
    let e : length (rows ++ r ∷ []) ≡ length rows + 1 = length-append rows (r ∷ []) in
    let f : length (rows ++ r ∷ []) ≡ suc (length rows) = omega arith in
    ap (range_with_len 0) f ∙ range-last 0 (length rows) ∙ ap (λ m. range_with_len 0 (length rows) ++ m ∷ []) (from_zero (length rows))
  where
    from_zero : (n : ℕ) → 0 + n ≡ n
    from_zero n = omega arith

filter-both : (b c : ℕ → Bool) (xs : List ℕ) → filter (λ p. not (b p || c p)) xs ≡ filter (λ p. not (c p)) (filter (λ p. not (b p)) xs)
filter-both b c [] = refl
filter-both b c (x ∷ xs) = by (b x) (filter-both b c xs)
  where
    by : (s : Bool) → filter (λ p. not (b p || c p)) xs ≡ filter (λ p. not (c p)) (filter (λ p. not (b p)) xs)
        → cond (not (s || c x)) (x ∷ filter (λ p. not (b p || c p)) xs) (filter (λ p. not (b p || c p)) xs) ≡ filter (λ p. not (c p)) (cond (not s) (x ∷ filter (λ p. not (b p)) xs) (filter (λ p. not (b p)) xs))
    by true e = e
    by false e = λ i. cond (not (c x)) (x ∷ e i) (e i)

-- ---- extremities

abbrev pub row_of : Kept → Row
row_of k = record { id = k.id; event = k.event; rejected = is_rejected k.verdict }

pub rows_of-push : (kept : List Kept) (k : Kept) → rows_of (kept ++ k ∷ []) ≡ rows_of kept ++ row_of k ∷ []
rows_of-push kept k = map-append row_of kept (k ∷ [])

abbrev accepted_at : List Kept → ℕ → Bool
accepted_at kept p = is_accepted (kept_at kept p).verdict

abbrev extremities_by : List Row → List ℕ → List ℕ
extremities_by rows accepted = filter (λ p. not (is_in (ancestors rows accepted) p)) accepted

abbrev accepted_in : List Kept → List Row → List ℕ
accepted_in kept rows = filter (accepted_at kept) (places rows)

unfolded : (kept : List Kept) → forward_extremities kept ≡ extremities_by (rows_of kept) (accepted_in kept (rows_of kept))
unfolding forward_extremities
unfolded kept = refl

-- accepted events are rows
accepted-below : (kept : List Kept) (rows : List Row) (x : ℕ) → is_in (accepted_in kept rows) x ≡ true → x < length rows
accepted-below kept rows x e =
    let l = range-parts 0 (length rows) x (in_filter-parts (accepted_at kept) x (places rows) (is_in-to x (accepted_in kept rows) e)).0 in
    let m : x < 0 + length rows = l.1 in
    omega arith

-- extremities are rows
pub extremities-below : (kept : List Kept) (x : ℕ) → is_in (forward_extremities kept) x ≡ true → x < length kept
extremities-below kept x e =
    let accepted : List ℕ = accepted_in kept (rows_of kept) in
    let f : is_in (extremities_by (rows_of kept) accepted) x ≡ true = ap (λ ps. is_in ps x) (sym (unfolded kept)) ∙ e in
    let l : x < length (rows_of kept) = accepted-below kept (rows_of kept) x (is_in-from x accepted (in_filter-parts (λ p. not (is_in (ancestors (rows_of kept) accepted) p)) x accepted (is_in-to x (extremities_by (rows_of kept) accepted) f)).0) in
    let n : length (rows_of kept) ≡ length kept = length-map kept row_of in
    omega arith

range-rises : (a n : ℕ) → Rises (range_with_len a n)
range-rises a zero = tt
range-rises a (suc n) = ((λ y e. let l = range-parts (a + 1) n y (is_in-to y (range_with_len (a + 1) n) e) in let m : a + 1 ≤ y = l.0 in omega arith), range-rises (a + 1) n)

pub extremities-rise : (kept : List Kept) → Rises (forward_extremities kept)
extremities-rise kept =
    subst Rises (sym (unfolded kept))
    (rises-filter (λ p. not (is_in (ancestors (rows_of kept) (accepted_in kept (rows_of kept))) p)) (accepted_in kept (rows_of kept))
    (rises-filter (accepted_at kept) (places (rows_of kept)) (range-rises 0 (length (rows_of kept)))))

module _ (kept : List Kept) (k : Kept) where
  abbrev rows : List Row
  rows = rows_of kept

  abbrev one_more : List Row
  one_more = rows ++ row_of k ∷ []

  accepted-old : (x : ℕ) → x < length kept → accepted_at (kept ++ k ∷ []) x ≡ accepted_at kept x
  accepted-old x l = ap (λ (j : Kept). is_accepted j.verdict) (get_or_append_left kept (k ∷ []) _ x l)

  accepted-new : accepted_at (kept ++ k ∷ []) (length kept) ≡ is_accepted k.verdict
  accepted-new = ap (λ (j : Kept). is_accepted j.verdict) (at-seam kept k _)

  accepted-push : accepted_in (kept ++ k ∷ []) one_more ≡ accepted_in kept rows ++ cond (is_accepted k.verdict) (length rows ∷ []) []
  accepted-push =
      ap (filter (accepted_at (kept ++ k ∷ []))) (places-push rows (row_of k))
      ∙ filter-append (accepted_at (kept ++ k ∷ [])) (places rows) (length rows ∷ [])
      ∙ λ i. same i ++ cond (last i) (length rows ∷ []) []
    where
      len : length rows ≡ length kept
      len = length-map kept row_of

      same : filter (accepted_at (kept ++ k ∷ [])) (places rows) ≡ accepted_in kept rows
      same = same_tests (accepted_at (kept ++ k ∷ [])) (accepted_at kept) (places rows)
          (λ p h. accepted-old p (let l = range-parts 0 (length rows) p h in let m : p < 0 + length rows = l.1 in let e : length rows ≡ length kept = len in omega arith))

      last : accepted_at (kept ++ k ∷ []) (length rows) ≡ is_accepted k.verdict
      last = ap (accepted_at (kept ++ k ∷ [])) len ∙ accepted-new

  module _ (sound : IsSound rows) (after : IsSound one_more) where
    -- an event that is not accepted changes no extremity
    pub extremities-kept : is_accepted k.verdict ≡ false → forward_extremities (kept ++ k ∷ []) ≡ forward_extremities kept
    extremities-kept e =
        unfolded (kept ++ k ∷ [])
        ∙ ap (λ rs. extremities_by rs (accepted_in (kept ++ k ∷ []) rs)) (rows_of-push kept k)
        ∙ ap (extremities_by one_more) (accepted-push ∙ ap (λ b. accepted_in kept rows ++ cond b (length rows ∷ []) []) e ∙ append-nil (accepted_in kept rows))
        ∙ same_tests (λ p. not (is_in (ancestors one_more (accepted_in kept rows)) p)) (λ p. not (is_in (ancestors rows (accepted_in kept rows)) p)) (accepted_in kept rows)
        (λ p h. ap not (ancestors-longer rows (row_of k) sound after (accepted_in kept rows) (accepted-below kept rows) p))
        ∙ sym (unfolded kept)

    -- an accepted one replaces those that it leads to
    pub extremities-next : (verdicts : List Verdict) (covered : ℕ → Bool) → is_accepted k.verdict ≡ true → IsAllFrom (leads_on rows verdicts) (is_in (prev_events rows k.event)) covered
        → ((x : ℕ) → x < length kept → (kept_at kept x).verdict ≡ slice_index_or verdicts x Accepted)
        → forward_extremities (kept ++ k ∷ []) ≡ filter (λ p. not (covered p)) (forward_extremities kept) ++ length kept ∷ []
    extremities-next verdicts covered e is_covered same =
        unfolded (kept ++ k ∷ [])
        ∙ ap (λ rs. extremities_by rs (accepted_in (kept ++ k ∷ []) rs)) (rows_of-push kept k)
        ∙ ap (extremities_by one_more) (accepted-push ∙ ap (λ b. (accepted_in kept rows) ++ cond b (length rows ∷ []) []) e)
        ∙ same_tests (λ p. not (is_in (ancestors one_more ((accepted_in kept rows) ++ length rows ∷ [])) p)) (λ p. not (is_in (ancestors rows (accepted_in kept rows)) p || covered p)) ((accepted_in kept rows) ++ length rows ∷ [])
        (λ p h. ap not (ancestors-with rows (row_of k) sound after (accepted_in kept rows) (accepted-below kept rows) verdicts covered is_covered are_accepted p))
        ∙ filter-append (λ p. not (is_in (ancestors rows (accepted_in kept rows)) p || covered p)) (accepted_in kept rows) (length rows ∷ [])
        ∙ λ i. old i ++ cond (not (new i)) (len i ∷ []) []
      where
        len : length rows ≡ length kept
        len = length-map kept row_of

        are_accepted : (x : ℕ) → x < length rows → is_accepted (slice_index_or verdicts x Accepted) ≡ true → is_in (accepted_in kept rows) x ≡ true
        are_accepted x l f =
            is_in-from x (accepted_in kept rows) (in_filter (accepted_at kept) x (places rows) (in_places rows x l)
            (ap is_accepted (same x (let e : length rows ≡ length kept = len in omega arith)) ∙ f))

        old : filter (λ p. not (is_in (ancestors rows (accepted_in kept rows)) p || covered p)) (accepted_in kept rows) ≡ filter (λ p. not (covered p)) (forward_extremities kept)
        old = filter-both (is_in (ancestors rows (accepted_in kept rows))) covered (accepted_in kept rows) ∙ ap (filter (λ p. not (covered p))) (sym (unfolded kept))

        not_beyond : (b : Bool) → (b ≡ true → length rows < length rows) → b ≡ false
        not_beyond true h = absurd (let l : length rows < length rows = h refl in omega arith)
        not_beyond false h = refl

        new : (is_in (ancestors rows (accepted_in kept rows)) (length rows) || covered (length rows)) ≡ false
        new = λ i.
            not_beyond (is_in (ancestors rows (accepted_in kept rows)) (length rows)) (ancestors-below rows (row_of k) sound after (accepted_in kept rows) (length rows)) i
            || not_beyond (covered (length rows)) (covered-below rows (row_of k) sound after (accepted_in kept rows) (accepted-below kept rows) verdicts covered is_covered are_accepted (length rows)) i

-- ---- verdicts beside rows

pub verdict-at : (rows : List Row) (js : List Judged) (x : ℕ) → length rows ≡ length js → (kept_at (kept_of rows js) x).verdict ≡ slice_index_or (verdicts_of js) x Accepted
verdict-at [] [] x e = refl
verdict-at [] (j ∷ js) x e = absurd (omega arith)
verdict-at (r ∷ rows) [] x e = absurd (omega arith)
verdict-at (r ∷ rows) (j ∷ js) zero e = refl
verdict-at (r ∷ rows) (j ∷ js) (suc x) e = verdict-at rows js x (omega arith)
