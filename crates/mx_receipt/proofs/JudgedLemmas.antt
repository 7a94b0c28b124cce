-- Events that were judged by those before them, and one more.
use Rattle.std.proofs.Common.{◌≡◌, ◌<◌, ◌≤◌, ◌+◌, ◌++◌, ◌⊎◌, inl, inr, ℕ, List, [], ◌∷◌, take, length, sym, ap, ap₂, ◌∙◌, arith}
use Rattle.std.proofs.lemmas.Bool.{cases_lt}
use Rattle.std.proofs.lemmas.List.{get_or_append_left, length-append, take-append-le}
use Rattle.std.specs.Prelude.{get_or, slice_index_or}
use Rattle.std.specs.List.{All}
use Rattle.mx_graph.specs.StateMap.{State}
use Rattle.mx_states.specs.Numbered.{state_at}
use Rattle.mx_receipt.specs.Receipt.{AreJudged, Kept, current_state, kept_at, verdict}
use Rattle.mx_receipt.specs.Judgements.{WereJudged}
use Rattle.mx_receipt.proofs.KeptLemmas.{all-push}
use Rattle.mx_receipt.proofs.RecordLemmas.{at-seam, take-whole}

-- nobody was judged
pub none-judged : (states : List State) → WereJudged states [] []
none-judged states = record {
  below = λ k d l. absurd (omega arith);
  currents = λ p l. absurd (omega arith);
  verdicts = λ p low l. absurd (omega arith);
}

-- ---- one more event, behind events that were judged

module _ (kept : List Kept) (k : Kept) where
  longer : length (kept ++ k ∷ []) ≡ length kept + 1
  longer = length-append kept (k ∷ [])

  judged-push : AreJudged kept → (0 < length kept → k.verdict ≡ verdict kept k.event) → AreJudged (kept ++ k ∷ [])
  judged-push old new p low l = by (cases_lt p (length kept))
    where
      by : (p < length kept) ⊎ (length kept ≤ p) → (kept_at (kept ++ k ∷ []) p).verdict ≡ verdict (take p (kept ++ k ∷ [])) (kept_at (kept ++ k ∷ []) p).event
      by (inl m) =
          ap (λ (j : Kept). j.verdict) (get_or_append_left kept (k ∷ []) _ p m) ∙ old p low m
          ∙ ap₂ (λ (ks : List Kept) (j : Kept). verdict ks j.event) (sym (take-append-le p kept (k ∷ []) (omega arith))) (sym (get_or_append_left kept (k ∷ []) _ p m))
      by (inr m) =
          let e : length (kept ++ k ∷ []) ≡ length kept + 1 = longer in
          let same : p ≡ length kept = omega arith in
          ap (λ q. (kept_at (kept ++ k ∷ []) q).verdict) same ∙ ap (λ (j : Kept). j.verdict) (at-seam kept k _) ∙ new (omega arith)
          ∙ ap₂ (λ (ks : List Kept) (j : Kept). verdict ks j.event) (sym (take-whole kept (k ∷ []))) (sym (at-seam kept k _))
          ∙ ap (λ q. verdict (take q (kept ++ k ∷ [])) (kept_at (kept ++ k ∷ []) q).event) (sym same)

  module _ (old more : List State) (numbers : List ℕ) (n : ℕ) (count : length numbers ≡ length kept) (were : WereJudged old numbers kept) (below : n < length old) (current : state_at old n ≡ current_state kept) where
    wider : length (old ++ more) ≡ length old + length more
    wider = length-append old more

    all-below : All (λ m. m < length (old ++ more)) (numbers ++ n ∷ [])
    all-below =
        all-push (λ m. m < length (old ++ more)) numbers n
        (λ i d l. let e : length (old ++ more) ≡ length old + length more = wider in let h : get_or numbers i d < length old = were.below i d l in omega arith)
        (let e : length (old ++ more) ≡ length old + length more = wider in omega arith)

    currents-push : (p : ℕ) → p < length (numbers ++ n ∷ []) → state_at (old ++ more) (slice_index_or (numbers ++ n ∷ []) p 0) ≡ current_state (take p (kept ++ k ∷ []))
    currents-push p l = by (cases_lt p (length numbers))
      where
        by : (p < length numbers) ⊎ (length numbers ≤ p) → state_at (old ++ more) (slice_index_or (numbers ++ n ∷ []) p 0) ≡ current_state (take p (kept ++ k ∷ []))
        by (inl m) =
            ap (state_at (old ++ more)) (get_or_append_left numbers (n ∷ []) 0 p m)
            ∙ get_or_append_left old more [] (slice_index_or numbers p 0) (were.below p 0 m)
            ∙ were.currents p m ∙ ap current_state (sym (take-append-le p kept (k ∷ []) (omega arith)))
        by (inr m) =
            let e : length (numbers ++ n ∷ []) ≡ length numbers + 1 = length-append numbers (n ∷ []) in
            let same : p ≡ length numbers = omega arith in
            ap (λ q. state_at (old ++ more) (slice_index_or (numbers ++ n ∷ []) q 0)) same ∙ ap (state_at (old ++ more)) (at-seam numbers n 0)
            ∙ get_or_append_left old more [] n below ∙ current ∙ ap current_state (sym (take-whole kept (k ∷ [])))
            ∙ ap (λ q. current_state (take q (kept ++ k ∷ []))) (sym (same ∙ count))

    pub were-push : (0 < length kept → k.verdict ≡ verdict kept k.event) → WereJudged (old ++ more) (numbers ++ n ∷ []) (kept ++ k ∷ [])
    were-push new = record { below = all-below; currents = currents-push; verdicts = judged-push were.verdicts new }
