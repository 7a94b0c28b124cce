-- What a timeline shows, and what its parts are.
use Rattle.std.proofs.Common.{◌≡◌, ◌<◌, ◌+◌, ◌-◌, ◌++◌, ℕ, Bool, true, false, not, ◌||◌, ◌&&◌, List, [], ◌∷◌, take, length, refl, sym, ap, subst, ◌∙◌, arith, Option, Some, None}
use Rattle.std.proofs.lemmas.List.{length-append}
use Rattle.std.proofs.lemmas.List.Folds.{list_any-append}
use Rattle.std.specs.Prelude.{slice_get, is_some, is_none, nat_le, codes}
use Rattle.std.specs.List.{All, list_any, list_all}
use Rattle.mx_ident.specs.Identifier.{refuse_if}
use Rattle.mx_redact.specs.Fields.{Event}
use Rattle.mx_pdu.specs.Event.{has_kind, prev_ids, auth_ids}
use Rattle.mx_graph.specs.declared.refusals.NotAdded.{NotAdded}
use Rattle.mx_graph.specs.declared.refusals.NotAdded.TheVariants.{Known, MissingPrevEvent, MissingAuthEvent, Full}
use Rattle.mx_graph.specs.Adding.{add_error, is_known, most_rows}
use Rattle.mx_graph.specs.Record.{Row, is_in, place_of}
use Rattle.mx_graph.proofs.Closure.{all-in, or_right}
use Rattle.mx_graph.specs.StateMap.{State}
use Rattle.mx_states.specs.Numbered.{state_at}
use Rattle.mx_receipt.specs.Receipt.{Kept, offer_error, lacks_cited, installed, judged}
use Rattle.mx_receipt.specs.Judgements.{Judged, judged_by, judged_in, kept_of, kept_row, currents, is_marked, unmarked, verdicts_in, ArePast, IsKept, IsHeld, IsAdded, WereJudged}
use Rattle.mx_receipt.specs.Timelines.{kept_in, prepared_in, IsPrepared, IsTimeline}
use Rattle.mx_receipt.specs.declared.snapshots.Judgement.{Judgement}
use Rattle.mx_receipt.specs.declared.timelines.Prepared.{Prepared}
use Rattle.mx_receipt.proofs.HeldLemmas.{judged-grows, judged-length, judged-push}
use Rattle.mx_receipt.proofs.PastLemmas.{marked-below, marked-currents, marked-judged, marked-verdicts, past-fewer}
use Rattle.mx_receipt.proofs.RecordLemmas.{take-whole, kept_of-push, kept_of-length}

get-seam : {A : Type 0} (xs : List A) (y : A) → slice_get (xs ++ y ∷ []) (length xs) ≡ Some y
get-seam [] y = refl
get-seam (x ∷ xs) y = get-seam xs y

-- ---- an event that is prepared

module _ (earlier : List Row) (r : Row) (js : List Judged) (j : Judged) (count : length earlier ≡ length js) where
  one_less : length (js ++ j ∷ []) - 1 ≡ length (kept_of earlier js)
  one_less =
      let e : length (js ++ j ∷ []) ≡ length js + 1 = length-append js (j ∷ []) in
      let f : length (kept_of earlier js) ≡ length js = kept_of-length earlier js count in
      omega arith

  shown-kept : take (length (js ++ j ∷ []) - 1) (kept_of (earlier ++ r ∷ []) (js ++ j ∷ [])) ≡ kept_of earlier js
  shown-kept = (λ i. take (one_less i) (kept_of-push earlier js r j count i)) ∙ take-whole (kept_of earlier js) (kept_row r j ∷ [])

  shown-prepared : slice_get (kept_of (earlier ++ r ∷ []) (js ++ j ∷ [])) (length (js ++ j ∷ []) - 1) ≡ Some (kept_row r j)
  shown-prepared = (λ i. slice_get (kept_of-push earlier js r j count i) (one_less i)) ∙ get-seam (kept_of earlier js) (kept_row r j)

module _ (rows : List Row) (states : List State) (js : List Judgement) (exts : List ℕ) (cur : ℕ) (p : Prepared) (h : IsPrepared rows states js exts cur p) where
  abbrev earlier_judged : List Judged
  earlier_judged = judged_in h.earlier_states h.judged

  -- the states of the earlier ones are those that were there
  are_judged : judged_in states js ≡ earlier_judged ++ judged_by states h.judgement ∷ []
  are_judged =
      ap (judged_in states) h.are_judgements ∙ judged-push states h.judged h.judgement
      ∙ ap (λ is. is ++ judged_by states h.judgement ∷ []) (ap (λ ss. judged_in ss h.judged) h.are_states ∙ judged-grows h.earlier_states h.more_states h.judged h.before.below)

  pub kept-shown : kept_in rows (judged_in states js) (Some p) ≡ kept_of h.earlier earlier_judged
  kept-shown = (λ i. take (length (are_judged i) - 1) (kept_of (h.are_rows i) (are_judged i))) ∙ shown-kept h.earlier h.row earlier_judged (judged_by states h.judgement) h.before.is_kept.count

  pub prepared-shown : prepared_in rows (judged_in states js) (Some p) ≡ Some (kept_row h.row (judged_by states h.judgement))
  prepared-shown = (λ i. slice_get (kept_of (h.are_rows i) (are_judged i)) (length (are_judged i) - 1)) ∙ shown-prepared h.earlier h.row earlier_judged (judged_by states h.judgement) h.before.is_kept.count

  -- it is the next one
  pub installed-shown : kept_of rows (judged_in states js) ≡ installed (kept_in rows (judged_in states js) (Some p)) (prepared_in rows (judged_in states js) (Some p))
  installed-shown =
      (λ i. kept_of (h.are_rows i) (are_judged i)) ∙ kept_of-push h.earlier earlier_judged h.row (judged_by states h.judgement) h.before.is_kept.count
      ∙ λ i. installed (sym kept-shown i) (sym prepared-shown i)

  -- without the last row, the last verdict and the states that were added
  module _ (rows' : List Row) (states' : List State) (js' : List Judgement) (less_rows : (es : List Row) (r : Row) → rows ≡ es ++ r ∷ [] → rows' ≡ es) (less_states : states' ≡ take p.states states) (less_judgements : (is : List Judgement) (j : Judgement) → js ≡ is ++ j ∷ [] → js' ≡ is) where
    states-are : states' ≡ h.earlier_states
    states-are = less_states ∙ (λ i. take (h.count i) (h.are_states i)) ∙ take-whole h.earlier_states h.more_states

    pub discarded-held : IsHeld rows' states' js' exts cur
    discarded-held =
        subst (λ rs. IsHeld rs states' js' exts cur) (sym (less_rows h.earlier h.row h.are_rows))
        (subst (λ ss. IsHeld h.earlier ss js' exts cur) (sym states-are)
        (subst (λ is. IsHeld h.earlier h.earlier_states is exts cur) (sym (less_judgements h.judged h.judgement h.are_judgements)) h.before))

    pub discarded-shown : kept_of rows' (judged_in states' js') ≡ kept_in rows (judged_in states js) (Some p)
    discarded-shown = (λ i. kept_of (less_rows h.earlier h.row h.are_rows i) (judged_in (states-are i) (less_judgements h.judged h.judgement h.are_judgements i))) ∙ sym kept-shown

  -- with the events marked that it covers
  module _ (js' : List Judgement) (stay : unmarked js' ≡ unmarked js) (marked : (q : ℕ) → is_marked js' q ≡ (is_marked js q || is_in p.covered.items q)) where
    pub installed-held : IsHeld rows states js' p.extremities.items p.current
    installed-held = record {
      is_kept = subst (λ is. IsKept rows is p.extremities.items (state_at states p.current)) (sym (marked-judged js js' stay states)) h.after.is_kept;
      below = marked-below js js' stay (length states) h.after.below;
      below_current = h.after.below_current;
      known = h.after.known;
      past =
          subst (λ vs. ArePast rows vs p.extremities.items (is_marked js')) (sym (marked-verdicts js js' stay))
          (past-fewer rows (verdicts_in js) p.extremities.items (λ q. is_marked js q || is_in p.covered.items q) (is_marked js') (λ q e. sym (marked q) ∙ e) h.past);
      judged =
          subst (λ ns. WereJudged states ns (kept_of rows (judged_in states js'))) (sym (marked-currents js js' stay))
          (subst (λ is. WereJudged states (currents js) (kept_of rows is)) (sym (marked-judged js js' stay states)) h.after.judged);
    }

    pub marked-kept : kept_of rows (judged_in states js') ≡ kept_of rows (judged_in states js)
    marked-kept = ap (kept_of rows) (marked-judged js js' stay states)

  -- they are rows
  pub covered-known : All (λ q. q < length js) p.covered.items
  covered-known = all-in (λ q. q < length js) p.covered.items (λ q e.
      let l : q < length rows = h.past.below q (h.past.has q (or_right (is_marked js q) (is_in p.covered.items q) e)) in
      let f : length rows ≡ length js = h.after.is_kept.count ∙ judged-length states js in
      omega arith)

-- where no event is shown as prepared, none is
pub none-prepared : (rows : List Row) (states : List State) (js : List Judgement) (exts : List ℕ) (cur : ℕ) (o : Option Prepared) → IsTimeline rows states js exts cur o → prepared_in rows (judged_in states js) o ≡ None → o ≡ None
none-prepared rows states js exts cur None h e = refl
none-prepared rows states js exts cur (Some p) h e = absurd (cc (sym (prepared-shown rows states js exts cur p h) ∙ e))

-- ---- an event that was added

module _ (rows : List Row) (states : List State) (js : List Judgement) (exts : List ℕ) (cur : ℕ) (held : IsHeld rows states js exts cur) (id : List ℕ) (e : Event) (rows' : List Row) (states' : List State) (js' : List Judgement) (p : Prepared)
    (added : IsAdded rows states js id e rows' states' js' p.extremities.items p.covered.items p.current) (count : p.states ≡ length states) where
  pub is_prepared : IsPrepared rows' states' js' exts cur p
  is_prepared = record {
    earlier = rows;
    row = record { id = id; event = e; rejected = Rattle.mx_receipt.specs.Receipt.is_rejected added.judgement.verdict };
    earlier_states = states;
    more_states = added.more;
    judged = js;
    judgement = added.judgement;
    are_rows = added.are_rows;
    are_states = added.are_states;
    count = count;
    are_judgements = added.are_judgements;
    before = held;
    after = added.is_held;
    past = added.past;
  }

  pub added-kept : kept_in rows' (judged_in states' js') (Some p) ≡ kept_of rows (judged_in states js)
  unfolding is_prepared
  added-kept = kept-shown rows' states' js' exts cur p is_prepared

  pub added-prepared : prepared_in rows' (judged_in states' js') (Some p) ≡ Some (judged (kept_of rows (judged_in states js)) id e)
  unfolding is_prepared
  added-prepared = prepared-shown rows' states' js' exts cur p is_prepared ∙ λ i. Some (record { id = id; event = e; verdict = added.is_verdict i })

-- ---- an event that a record takes can be added

not_refused : {X : Type 0} (b : Bool) (r : X) (next : Option X) → refuse_if b r next ≡ None → (b ≡ false) × (next ≡ None)
not_refused true r next e = absurd (cc e)
not_refused false r next e = (refl, e)

or_parts : (a b : Bool) → (a || b) ≡ false → (a ≡ false) × (b ≡ false)
or_parts true b e = absurd (cc e)
or_parts false b e = (refl, e)

known-here : (o : Option ℕ) → is_none o ≡ false → is_some o ≡ true
known-here None e = absurd (cc e)
known-here (Some x) e = refl

known-all : (rows : List Row) (ids : List (List ℕ)) → list_any (λ id. is_none (place_of rows id)) ids ≡ false → list_all (is_known rows) ids ≡ true
known-all rows [] e = refl
known-all rows (id ∷ ids) e =
    let parts = or_parts (is_none (place_of rows id)) (list_any (λ x. is_none (place_of rows x)) ids) e in
    λ i. known-here (place_of rows id) parts.0 i && known-all rows ids parts.1 i

pub taken-free : (rows : List Row) (id : List ℕ) (e : Event) (rejected : Bool) → offer_error rows id e ≡ None → add_error rows (record { id = id; event = e; rejected = rejected }) ≡ None
unfolding offer_error add_error
taken-free rows id e rejected h =
    let first = not_refused (is_some (place_of rows id)) _ _ h in
    let second = not_refused (has_kind (codes "m.room.create") e) _ _ first.1 in
    let third = not_refused (lacks_cited rows e) _ _ second.1 in
    let fourth = not_refused (nat_le most_rows (length rows)) _ _ third.1 in
    let cited = or_parts (list_any (λ x. is_none (place_of rows x)) (prev_ids e)) (list_any (λ x. is_none (place_of rows x)) (auth_ids e)) (sym (list_any-append (λ x. is_none (place_of rows x)) (prev_ids e) (auth_ids e)) ∙ third.0) in
    λ i. refuse_if {E = NotAdded} (first.0 i) Known (refuse_if {E = NotAdded} (not (known-all rows (prev_ids e) cited.0 i)) MissingPrevEvent
    (refuse_if {E = NotAdded} (not (known-all rows (auth_ids e) cited.1 i)) MissingAuthEvent (refuse_if {E = NotAdded} (fourth.0 i) Full None)))
