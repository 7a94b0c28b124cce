-- What a timeline hands out.
use Rattle.std.proofs.Common.{◌≡◌, ◌<◌, ◌≤◌, ◌+◌, ◌++◌, ◌⊎◌, inl, inr, ℕ, zero, suc, Bool, true, false, List, [], ◌∷◌, length, refl, sym, ap, subst, ◌∙◌, arith, map, Option, Some, None}
use Rattle.std.proofs.lemmas.Bool.{cases_lt}
use Rattle.std.proofs.lemmas.List.{get_or_append_left, length-append, get_or-map, length-map, append-nil}
use Rattle.std.proofs.lemmas.List.Elements.{All-map}
use Rattle.std.specs.Prelude.{slice_index_or, option_to_list, bytes_eq, cond, take}
use Rattle.std.specs.List.{All}
use Rattle.std.specs.Option.{option_or}
use Rattle.mx_pdu.specs.StateKeys.{Key}
use Rattle.mx_graph.proofs.RowLemmas.{place_of-push, place_of-below}
use Rattle.mx_graph.specs.Graph.{IsSound}
use Rattle.mx_graph.specs.Record.{Row, no_row, row, place_of}
use Rattle.mx_graph.specs.StateMap.{State}
use Rattle.mx_receipt.specs.Receipt.{AreJudged, Kept, rows_of, kept_at, states_after, state_before, state_after, forward_extremities, current_state}
use Rattle.mx_states.specs.Numbered.{state_at}
use Rattle.mx_receipt.specs.Judgements.{Judged, currents, judged_by, judged_in, kept_of, Knows}
use Rattle.mx_receipt.specs.Timelines.{kept_in, IsTimeline, HasKept}
use Rattle.mx_receipt.specs.declared.verdicts.Verdict.TheVariants.{Accepted}
use Rattle.mx_receipt.specs.declared.snapshots.Judgement.{Judgement}
use Rattle.mx_receipt.specs.declared.timelines.Prepared.{Prepared}
use Rattle.mx_receipt.proofs.ExtremityLemmas.{verdict-at}
use Rattle.mx_receipt.proofs.HeldLemmas.{judged-length}
use Rattle.mx_receipt.proofs.RecordLemmas.{at-seam, kept_of-length}
use Rattle.mx_receipt.proofs.TimelineLemmas.{kept-shown}

-- with or without an event that is prepared
pub has-kept : (rows : List Row) (states : List State) (js : List Judgement) (exts : List ℕ) (cur : ℕ) (o : Option Prepared) → IsTimeline rows states js exts cur o → HasKept rows states js exts cur (kept_in rows (judged_in states js) o)
has-kept rows states js exts cur None h = record {
  kept_rows = rows;
  next_row = None;
  kept_states = states;
  more_states = [];
  kept_judgements = js;
  more_judgements = [];
  are_rows = sym (append-nil rows);
  are_states = sym (append-nil states);
  are_judgements = sym (append-nil js);
  is_held = h;
  shown = refl;
}
has-kept rows states js exts cur (Some p) h = record {
  kept_rows = h.earlier;
  next_row = Some h.row;
  kept_states = h.earlier_states;
  more_states = h.more_states;
  kept_judgements = h.judged;
  more_judgements = h.judgement ∷ [];
  are_rows = h.are_rows;
  are_states = h.are_states;
  are_judgements = h.are_judgements;
  is_held = h.before;
  shown = kept-shown rows states js exts cur p h;
}

states_after-length : (kept : List Kept) (n : ℕ) → length (states_after kept n) ≡ n
states_after-length kept zero = refl
states_after-length kept (suc n) =
    let e : length (states_after kept n) ≡ n = states_after-length kept n in
    let f : length (states_after kept (suc n)) ≡ length (states_after kept n) + 1 = length-append (states_after kept n) _ in
    omega arith

-- each state after an event is the one at its place
states_after-at : (kept : List Kept) (n p : ℕ) → p < n → slice_index_or (states_after kept n) p [] ≡ state_after kept p
unfolding state_after state_before
states_after-at kept zero p l = absurd (omega arith)
states_after-at kept (suc n) p l = by (cases_lt p n) (states_after-at kept n p)
  where
    len : length (states_after kept n) ≡ n
    len = states_after-length kept n

    by : (p < n) ⊎ (n ≤ p) → (p < n → slice_index_or (states_after kept n) p [] ≡ state_after kept p) → slice_index_or (states_after kept (suc n)) p [] ≡ state_after kept p
    by (inl m) later = get_or_append_left (states_after kept n) _ [] p (let e : length (states_after kept n) ≡ n = len in omega arith) ∙ later m
    by (inr m) later =
        let e : p ≡ n = omega arith in
        ap (λ q. slice_index_or (states_after kept (suc n)) q []) (e ∙ sym len) ∙ at-seam (states_after kept n) _ [] ∙ ap (state_after kept) (sym e)

-- ---- the place of an id

found-before : (rows : List Row) (o : Option Row) (id : List ℕ) (p : ℕ) → place_of (rows ++ option_to_list o) id ≡ Some p → p < length rows → place_of rows id ≡ Some p
found-before rows None id p e l = ap (λ rs. place_of rs id) (sym (append-nil rows)) ∙ e
found-before rows (Some r) id p e l = by (place_of rows id) (bytes_eq r.id id) refl (sym (place_of-push rows r id) ∙ e)
  where
    by : (w : Option ℕ) (b : Bool) → place_of rows id ≡ w → option_or (place_of rows id) (cond b (Some (length rows)) None) ≡ Some p → place_of rows id ≡ Some p
    by (Some q) b f g = f ∙ ap (λ w. option_or w (cond b (Some (length rows)) None)) (sym f) ∙ g
    by None true f g = absurd (let same : length rows ≡ p = (let h : Some (length rows) ≡ Some p = ap (λ w. option_or w (Some (length rows))) (sym f) ∙ g in cc) in omega arith)
    by None false f g = absurd (let h : None ≡ Some p = ap (λ w. option_or w None) (sym f) ∙ g in cc)

found-after : (rows : List Row) (o : Option Row) (id : List ℕ) → ((p : ℕ) → place_of (rows ++ option_to_list o) id ≡ Some p → length rows ≤ p) → place_of rows id ≡ None
found-after rows o id h = by (place_of rows id) refl
  where
    longer : (w : Option Row) (q : ℕ) → place_of rows id ≡ Some q → place_of (rows ++ option_to_list w) id ≡ Some q
    longer None q e = ap (λ rs. place_of rs id) (append-nil rows) ∙ e
    longer (Some r) q e = place_of-push rows r id ∙ ap (λ w. option_or w (cond (bytes_eq r.id id) (Some (length rows)) None)) e

    by : (w : Option ℕ) → place_of rows id ≡ w → place_of rows id ≡ None
    by None e = e
    by (Some q) e = absurd (let low : q < length rows = place_of-below rows id q e in let high : length rows ≤ q = h q (longer o q e) in omega arith)

module _ (rows : List Row) (states : List State) (js : List Judgement) (exts : List ℕ) (cur : ℕ) (kept : List Kept) (h : HasKept rows states js exts cur kept) where
  abbrev judged : List Judged
  judged = judged_in h.kept_states h.kept_judgements

  pub shown-length : length kept ≡ length h.kept_judgements
  shown-length = ap length h.shown ∙ kept_of-length h.kept_rows judged h.is_held.is_kept.count ∙ judged-length h.kept_states h.kept_judgements

  pub shown-rows : rows_of kept ≡ h.kept_rows
  shown-rows = ap rows_of h.shown ∙ sym h.is_held.is_kept.are_kept

  -- a state that is kept is the one with its number
  state-here : (n : ℕ) → n < length h.kept_states → state_at states n ≡ state_at h.kept_states n
  state-here n l = ap (λ ss. state_at ss n) h.are_states ∙ get_or_append_left h.kept_states h.more_states [] n l

  more-states : (n : ℕ) → n < length h.kept_states → n < length states
  more-states n l = let e : length states ≡ length h.kept_states + length h.more_states = ap length h.are_states ∙ length-append h.kept_states h.more_states in omega arith

  pub current-below : cur < length states
  current-below = more-states cur h.is_held.below_current

  pub shown-current : state_at states cur ≡ current_state kept
  shown-current = state-here cur h.is_held.below_current ∙ h.is_held.is_kept.is_current ∙ ap current_state (sym h.shown)

  pub shown-extremities : exts ≡ forward_extremities kept
  shown-extremities = h.is_held.is_kept.are_extremities ∙ ap forward_extremities (sym h.shown)

  pub extremities-below : All (λ p. p < length kept) exts
  extremities-below = subst (λ n. All (λ p. p < n) exts) (judged-length h.kept_states h.kept_judgements ∙ sym shown-length) h.is_held.is_kept.below

  pub shown-index : (p : ℕ) → p < length kept → p < length h.kept_judgements
  shown-index p l = let e : length kept ≡ length h.kept_judgements = shown-length in omega arith

  judged-index : (p : ℕ) → p < length kept → p < length judged
  judged-index p l = let e : length judged ≡ length h.kept_judgements = judged-length h.kept_states h.kept_judgements in let m : p < length h.kept_judgements = shown-index p l in omega arith

  -- what stands at the place of a kept event
  shown-at : (p : ℕ) (v : Judgement) → p < length kept → v ≡ slice_index_or js p v → v ≡ slice_index_or h.kept_judgements p v
  shown-at p v l e = e ∙ ap (λ is. slice_index_or is p v) h.are_judgements ∙ get_or_append_left h.kept_judgements h.more_judgements v p (shown-index p l)

  is-below : (p : ℕ) (v : Judgement) → p < length kept → v ≡ slice_index_or js p v → (v.before < length h.kept_states) × (v.after < length h.kept_states)
  is-below p v l e =
      subst (λ (j : Judgement). (j.before < length h.kept_states) × (j.after < length h.kept_states)) (sym (shown-at p v l e))
      (h.is_held.below p v (shown-index p l))

  judged-at : (p : ℕ) (v : Judgement) → p < length kept → v ≡ slice_index_or js p v → judged_by h.kept_states v ≡ slice_index_or judged p (judged_by h.kept_states v)
  judged-at p v l e = ap (judged_by h.kept_states) (shown-at p v l e) ∙ sym (get_or-map (judged_by h.kept_states) h.kept_judgements p v (judged_by h.kept_states v) (shown-index p l))

  pub shown-verdict : (p : ℕ) (v : Judgement) → p < length kept → v ≡ slice_index_or js p v → v.verdict ≡ (kept_at kept p).verdict
  shown-verdict p v l e =
      ap (λ (j : Judged). j.verdict) (judged-at p v l e) ∙ sym (get_or-map (λ (j : Judged). j.verdict) judged p (judged_by h.kept_states v) Accepted (judged-index p l))
      ∙ sym (verdict-at h.kept_rows judged p h.is_held.is_kept.count) ∙ ap (λ ks. (kept_at ks p).verdict) (sym h.shown)

  pub before-below : (p : ℕ) (v : Judgement) → p < length kept → v ≡ slice_index_or js p v → v.before < length states
  before-below p v l e = more-states v.before (is-below p v l e).0

  pub after-below : (p : ℕ) (v : Judgement) → p < length kept → v ≡ slice_index_or js p v → v.after < length states
  after-below p v l e = more-states v.after (is-below p v l e).1

  pub shown-before : (p : ℕ) (v : Judgement) → p < length kept → v ≡ slice_index_or js p v → state_at states v.before ≡ state_before kept p
  shown-before p v l e =
      state-here v.before (is-below p v l e).0
      ∙ ap (λ (j : Judged). j.before) (judged-at p v l e) ∙ sym (get_or-map (λ (j : Judged). j.before) judged p (judged_by h.kept_states v) [] (judged-index p l))
      ∙ h.is_held.is_kept.befores p (judged-index p l) ∙ ap (λ ks. state_before ks p) (sym h.shown)

  pub shown-after : (p : ℕ) (v : Judgement) → p < length kept → v ≡ slice_index_or js p v → state_at states v.after ≡ state_after kept p
  shown-after p v l e =
      state-here v.after (is-below p v l e).1
      ∙ ap (λ (j : Judged). j.after) (judged-at p v l e) ∙ sym (get_or-map (λ (j : Judged). j.after) judged p (judged_by h.kept_states v) [] (judged-index p l))
      ∙ ap (λ ss. slice_index_or ss p []) h.is_held.is_kept.afters ∙ states_after-at (kept_of h.kept_rows judged) (length judged) p (judged-index p l)
      ∙ ap (λ ks. state_after ks p) (sym h.shown)

  -- the current state when it came
  came-at : (p : ℕ) (v : Judgement) → p < length kept → v ≡ slice_index_or js p v → v.current ≡ slice_index_or (currents h.kept_judgements) p 0
  came-at p v l e = ap (λ (j : Judgement). j.current) (shown-at p v l e) ∙ sym (get_or-map (λ (j : Judgement). j.current) h.kept_judgements p v 0 (shown-index p l))

  came-index : (p : ℕ) → p < length kept → p < length (currents h.kept_judgements)
  came-index p l = let e : length (currents h.kept_judgements) ≡ length h.kept_judgements = length-map h.kept_judgements (λ (j : Judgement). j.current) in let m : p < length h.kept_judgements = shown-index p l in omega arith

  came-below : (p : ℕ) (v : Judgement) → p < length kept → v ≡ slice_index_or js p v → v.current < length h.kept_states
  came-below p v l e = subst (λ n. n < length h.kept_states) (sym (came-at p v l e)) (h.is_held.judged.below p 0 (came-index p l))

  pub current_before-below : (p : ℕ) (v : Judgement) → p < length kept → v ≡ slice_index_or js p v → v.current < length states
  current_before-below p v l e = more-states v.current (came-below p v l e)

  pub shown-current_before : (p : ℕ) (v : Judgement) → p < length kept → v ≡ slice_index_or js p v → state_at states v.current ≡ current_state (take p kept)
  shown-current_before p v l e =
      state-here v.current (came-below p v l e) ∙ ap (state_at h.kept_states) (came-at p v l e)
      ∙ h.is_held.judged.currents p (came-index p l) ∙ ap (λ ks. current_state (take p ks)) (sym h.shown)

  pub shown-judged : AreJudged kept
  shown-judged = subst AreJudged (sym h.shown) h.is_held.judged.verdicts

  pub shown-row : (p : ℕ) → p < length kept → row rows p ≡ row (rows_of kept) p
  shown-row p l =
      let e : length kept ≡ length h.kept_judgements = shown-length in
      let f : length h.kept_rows ≡ length h.kept_judgements = h.is_held.is_kept.count ∙ judged-length h.kept_states h.kept_judgements in
      ap (λ rs. row rs p) h.are_rows ∙ get_or_append_left h.kept_rows (option_to_list h.next_row) no_row p (omega arith) ∙ ap (λ rs. row rs p) (sym shown-rows)

  pub shown-count : length kept ≡ length h.kept_rows
  shown-count = shown-length ∙ sym (h.is_held.is_kept.count ∙ judged-length h.kept_states h.kept_judgements)

  pub shown-found : (id : List ℕ) (p : ℕ) → place_of rows id ≡ Some p → p < length kept → Some p ≡ place_of (rows_of kept) id
  shown-found id p e l =
      sym (ap (λ rs. place_of rs id) shown-rows ∙ found-before h.kept_rows h.next_row id p (ap (λ rs. place_of rs id) (sym h.are_rows) ∙ e) (let f : length kept ≡ length h.kept_rows = shown-count in omega arith))

  pub shown-absent : (id : List ℕ) → ((p : ℕ) → place_of rows id ≡ Some p → length kept ≤ p) → None ≡ place_of (rows_of kept) id
  shown-absent id g =
      sym (ap (λ rs. place_of rs id) shown-rows ∙ found-after h.kept_rows h.next_row id
      (λ p e. let f : length kept ≡ length h.kept_rows = shown-count in let l : length kept ≤ p = g p (ap (λ rs. place_of rs id) h.are_rows ∙ e) in omega arith))

  -- ---- a sound timeline

  below : (f : Judged → State) (p : ℕ) → p < length kept → p < length (map f judged)
  below f p l = (let k : p < length judged = judged-index p l in let e : length (map f judged) ≡ length judged = length-map judged f in omega arith)

  known-here : (s : State) → Knows h.kept_rows s → All (λ e. e.1 < length kept) s
  known-here s k = subst (λ n. All (λ (e : Key × ℕ). e.1 < n) s) (sym shown-count) k

  pub known-current : All (λ e. e.1 < length kept) (current_state kept)
  known-current = known-here (current_state kept) (subst (Knows h.kept_rows) (h.is_held.is_kept.is_current ∙ ap current_state (sym h.shown)) h.is_held.is_kept.knows_current)

  pub known-before : (p : ℕ) → p < length kept → All (λ e. e.1 < length kept) (state_before kept p)
  known-before p l =
      known-here (state_before kept p)
      (subst (Knows h.kept_rows) (h.is_held.is_kept.befores p (judged-index p l) ∙ ap (λ ks. state_before ks p) (sym h.shown))
      (All-map (Knows h.kept_rows) (λ (j : Judged). j.before) judged h.is_held.is_kept.knows_before p [] (below (λ (j : Judged). j.before) p l)))

  pub known-after : (p : ℕ) → p < length kept → All (λ e. e.1 < length kept) (state_after kept p)
  known-after p l =
      known-here (state_after kept p)
      (subst (Knows h.kept_rows)
      (ap (λ ss. slice_index_or ss p []) h.is_held.is_kept.afters ∙ states_after-at (kept_of h.kept_rows judged) (length judged) p (judged-index p l) ∙ ap (λ ks. state_after ks p) (sym h.shown))
      (All-map (Knows h.kept_rows) (λ (j : Judged). j.after) judged h.is_held.is_kept.knows p [] (below (λ (j : Judged). j.after) p l)))

  -- each event has an id of its own
  pub shown-ids : IsSound rows → (x y : ℕ) → x < length kept → y < length kept → (row (rows_of kept) x).id ≡ (row (rows_of kept) y).id → x ≡ y
  shown-ids sound x y k l e =
      sound.ids x y (in-rows x k) (in-rows y l) (ap (λ (r : Row). r.id) (shown-row x k) ∙ e ∙ sym (ap (λ (r : Row). r.id) (shown-row y l)))
    where
      in-rows : (p : ℕ) → p < length kept → p < length rows
      in-rows p m =
          let f : length kept ≡ length h.kept_rows = shown-count in
          let g : length rows ≡ length h.kept_rows + length (option_to_list h.next_row) = ap length h.are_rows ∙ length-append h.kept_rows (option_to_list h.next_row) in
          omega arith
