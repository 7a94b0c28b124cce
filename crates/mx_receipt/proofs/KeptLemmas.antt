-- What is kept beside a record agrees with it after one more row.
use Rattle.std.proofs.Common.{◌≡◌, ◌<◌, ◌≤◌, ◌+◌, ◌&&◌, ◌++◌, ◌⊎◌, inl, inr, ℕ, zero, suc, Bool, true, false, List, [], ◌∷◌, filter, not, length, refl, sym, ap, subst, ◌∙◌, arith}
use Rattle.std.proofs.lemmas.Bool.{cases_lt}
use Rattle.std.proofs.lemmas.List.{get_or_append_left, length-append, length-map, map-append}
use Rattle.std.proofs.lemmas.List.Elements.{All-append}
use Rattle.std.specs.Prelude.{get_or, slice_index_or, if◌then◌else◌}
use Rattle.std.specs.List.{All}
use Rattle.mx_graph.specs.Edges.{IsAllFrom}
use Rattle.mx_graph.specs.Graph.{IsSound}
use Rattle.mx_graph.proofs.Closure.{all-in}
use Rattle.mx_redact.specs.Fields.{Event}
use Rattle.mx_auth.specs.Rules.{rules}
use Rattle.mx_graph.specs.Record.{Row, is_in, events_where, prev_events}
use Rattle.mx_graph.specs.StateMap.{State}
use Rattle.mx_orders.specs.StateMap.{with_event, view}
use Rattle.mx_receipt.specs.Receipt.{Kept, verdict, accept_or, auth_failure, before_event, version_in, resolve_in, is_accepted, is_rejected, rows_of, states_at, with_kept, states_after, state_before, state_before_next, forward_extremities, current_state}
use Rattle.mx_receipt.specs.Judgements.{Judged, kept_of, kept_row, verdicts_of, afters, befores, Knows, KnowsAll, IsKept, IsJudged, AreNext, leads_on}
use Rattle.mx_receipt.specs.declared.verdicts.Verdict.TheVariants.{Accepted, SoftFailed, Rejected}
use Rattle.mx_state_res.proofs.SetLemmas.{is_in-filter}
use Rattle.mx_receipt.proofs.CoverLemmas.{in-all}
use Rattle.mx_receipt.proofs.GrowthLemmas.{is_in-cases}
use Rattle.mx_receipt.proofs.StateLemmas.{with_event-known}
use Rattle.mx_receipt.proofs.ExtremityLemmas.{row_of, rows_of-push, extremities-kept, extremities-next, verdict-at}
use Rattle.mx_receipt.proofs.RecordLemmas.{at-seam, kept_of-push, kept_of-length, states_after-push, state_before-old, state_before-new}

knows-longer : (rows : List Row) (r : Row) (s : State) → Knows rows s → Knows (rows ++ r ∷ []) s
knows-longer rows r s h = λ i d l.
    let e : length (rows ++ r ∷ []) ≡ length rows + 1 = length-append rows (r ∷ []) in
    let m : (get_or s i d).1 < length rows = h i d l in
    omega arith

single : {A : Type 0} (P : A → Type 0) (x : A) → P x → All P (x ∷ [])
single P x p zero d l = p
single P x p (suc i) d l = absurd (omega arith)

-- all of a list and one more
pub all-push : {A : Type 0} (P : A → Type 0) (xs : List A) (x : A) → All P xs → P x → All P (xs ++ x ∷ [])
all-push P xs x h p = All-append P xs (x ∷ []) h (single P x p)

and_left : (a b : Bool) → (a && b) ≡ true → a ≡ true
and_left true b e = refl
and_left false b e = e

module _ (rows : List Row) (js : List Judged) (exts : List ℕ) (cur : State) (old : IsKept rows js exts cur)
    (r : Row) (j : Judged) (exts' : List ℕ) (next : IsJudged rows js exts r j exts') where
  abbrev K : List Kept
  K = kept_of rows js

  abbrev k : Kept
  k = kept_row r j

  count : length K ≡ length js
  count = kept_of-length rows js old.count

  is_push : kept_of (rows ++ r ∷ []) (js ++ j ∷ []) ≡ K ++ k ∷ []
  is_push = kept_of-push rows js r j old.count

  row-is : row_of k ≡ r
  row-is = ap (λ b. record { id = r.id; event = r.event; rejected = b }) (sym next.flag)

  pub rows-push : rows_of (K ++ k ∷ []) ≡ rows ++ r ∷ []
  rows-push = rows_of-push K k ∙ λ i. sym old.are_kept i ++ row-is i ∷ []

  befores-push : (p : ℕ) → p < length (js ++ j ∷ []) → slice_index_or (befores (js ++ j ∷ [])) p [] ≡ state_before (K ++ k ∷ []) p
  befores-push p l = by (cases_lt p (length js))
    where
      are : befores (js ++ j ∷ []) ≡ befores js ++ j.before ∷ []
      are = map-append (λ i. i.before) js (j ∷ [])

      len : length (befores js) ≡ length js
      len = length-map js (λ i. i.before)

      last : p ≡ length js → slice_index_or (befores (js ++ j ∷ [])) p [] ≡ state_before (K ++ k ∷ []) p
      last e =
          ap (λ ss. slice_index_or ss p []) are ∙ ap (λ q. slice_index_or (befores js ++ j.before ∷ []) q []) (e ∙ sym len) ∙ at-seam (befores js) j.before []
          ∙ next.before ∙ sym (state_before-new K k) ∙ ap (state_before (K ++ k ∷ [])) (count ∙ sym e)

      by : (p < length js) ⊎ (length js ≤ p) → slice_index_or (befores (js ++ j ∷ [])) p [] ≡ state_before (K ++ k ∷ []) p
      by (inl m) =
          ap (λ ss. slice_index_or ss p []) are ∙ get_or_append_left (befores js) (j.before ∷ []) [] p (let e : length (befores js) ≡ length js = len in omega arith)
          ∙ old.befores p m ∙ sym (state_before-old K k p (let e : length K ≡ length js = count in omega arith))
      by (inr m) = last (let e : length (js ++ j ∷ []) ≡ length js + 1 = length-append js (j ∷ []) in omega arith)

  afters-push : afters (js ++ j ∷ []) ≡ states_after (K ++ k ∷ []) (suc (length K))
  afters-push =
      map-append (λ i. i.after) js (j ∷ [])
      ∙ (λ i. (old.afters ∙ ap (states_after K) (sym count)) i ++ (next.after ∙ λ i. with_kept (next.before i) k ((old.count ∙ sym count) i)) i ∷ [])
      ∙ sym (states_after-push K k)

  longer : suc (length K) ≡ length (K ++ k ∷ [])
  longer = let e : length (K ++ k ∷ []) ≡ length K + 1 = length-append K (k ∷ []) in omega arith

  lens : suc (length K) ≡ length (js ++ j ∷ [])
  lens = let e : length K ≡ length js = count in let f : length (js ++ j ∷ []) ≡ length js + 1 = length-append js (j ∷ []) in omega arith

  pub below-push : All (λ p. p < length (js ++ j ∷ [])) exts'
  below-push = all-in (λ p. p < length (js ++ j ∷ [])) exts' (λ y e. by (is_accepted j.verdict) refl y e)
    where
      old_below : (y : ℕ) → is_in exts y ≡ true → y < length (js ++ j ∷ [])
      old_below y e =
          let l : y < length js = in-all (λ p. p < length js) exts y old.below e in
          let f : length (js ++ j ∷ []) ≡ length js + 1 = length-append js (j ∷ []) in
          omega arith

      of_next : (f : ℕ → Bool) (y : ℕ) → (is_in (filter f exts) y ≡ true) ⊎ (length rows ≡ y) → y < length (js ++ j ∷ [])
      of_next f y (inl e) = old_below y (and_left (is_in exts y) (f y) (sym (is_in-filter f exts y) ∙ e))
      of_next f y (inr e) =
          let g : length rows ≡ length js = old.count in
          let h : length (js ++ j ∷ []) ≡ length js + 1 = length-append js (j ∷ []) in
          omega arith

      of_covered : AreNext rows (verdicts_of js) (prev_events rows r.event) exts (length rows) exts' → (y : ℕ) → is_in exts' y ≡ true → y < length (js ++ j ∷ [])
      of_covered n y e = of_next (λ p. not (n.covered p)) y (is_in-cases (filter (λ p. not (n.covered p)) exts) (length rows) y (ap (λ ps. is_in ps y) (sym n.are) ∙ e))

      by : (b : Bool) → is_accepted j.verdict ≡ b → (y : ℕ) → is_in exts' y ≡ true → y < length (js ++ j ∷ [])
      by true f y e = of_covered (next.are_next.replace f) y e
      by false f y e = old_below y (ap (λ ps. is_in ps y) (sym (next.are_next.stay f)) ∙ e)

  pub knows-push : KnowsAll (rows ++ r ∷ []) (js ++ j ∷ [])
  knows-push = all-push (λ i. Knows (rows ++ r ∷ []) i.after) js j (λ i d l. knows-longer rows r ((get_or js i d).after) (old.knows i d l)) knows-after
    where
      by_verdict : (b : Bool) → Knows (rows ++ r ∷ []) (if b then j.before else with_event j.before r.event (length rows))
      by_verdict true = knows-longer rows r j.before next.knows_before
      by_verdict false =
          with_event-known (length (rows ++ r ∷ [])) (length rows) j.before r.event (let e : length (rows ++ r ∷ []) ≡ length rows + 1 = length-append rows (r ∷ []) in omega arith)
          (knows-longer rows r j.before next.knows_before)

      knows-after : Knows (rows ++ r ∷ []) j.after
      knows-after = subst (Knows (rows ++ r ∷ [])) (sym next.after) (by_verdict (is_rejected j.verdict))

  module _ (sound : IsSound rows) (after : IsSound (rows ++ r ∷ [])) where
    sound_of : IsSound (rows_of K)
    sound_of = subst IsSound old.are_kept sound

    after_of : IsSound (rows_of K ++ row_of k ∷ [])
    after_of = subst IsSound (sym rows-push ∙ rows_of-push K k) after

    extremities-push : exts' ≡ forward_extremities (K ++ k ∷ [])
    extremities-push = by (is_accepted j.verdict) refl
      where
        replaced : is_accepted j.verdict ≡ true → AreNext rows (verdicts_of js) (prev_events rows r.event) exts (length rows) exts' → exts' ≡ forward_extremities (K ++ k ∷ [])
        replaced e n =
            n.are ∙ (λ i. filter (λ p. not (n.covered p)) (old.are_extremities i) ++ (old.count ∙ sym count) i ∷ [])
            ∙ sym (extremities-next K k sound_of after_of (verdicts_of js) n.covered e
            (subst (λ rs. IsAllFrom (leads_on rs (verdicts_of js)) (is_in (prev_events rs r.event)) n.covered) old.are_kept n.is_covered) (λ x l. verdict-at rows js x old.count))

        by : (b : Bool) → is_accepted j.verdict ≡ b → exts' ≡ forward_extremities (K ++ k ∷ [])
        by true e = replaced e (next.are_next.replace e)
        by false e = next.are_next.stay e ∙ old.are_extremities ∙ sym (extremities-kept K k sound_of after_of e)

    module _ (cur' : State) (current : cur' ≡ resolve_in (rows ++ r ∷ []) (states_at (afters (js ++ j ∷ [])) exts')) (knows_current : Knows (rows ++ r ∷ []) cur') where
      current-push : cur' ≡ current_state (K ++ k ∷ [])
      unfolding current_state
      current-push =
          current ∙ λ i. resolve_in (sym rows-push i) (states_at ((afters-push ∙ ap (states_after (K ++ k ∷ [])) longer) i) (extremities-push i))

      pub kept-push : IsKept (rows ++ r ∷ []) (js ++ j ∷ []) exts' cur'
      kept-push =
          record {
            are_kept = sym rows-push ∙ ap rows_of (sym is_push);
            count = let e : length (rows ++ r ∷ []) ≡ length rows + 1 = length-append rows (r ∷ []) in let f : length (js ++ j ∷ []) ≡ length js + 1 = length-append js (j ∷ []) in let g : length rows ≡ length js = old.count in omega arith;
            befores = λ p l. befores-push p l ∙ ap (λ ks. state_before ks p) (sym is_push);
            afters = afters-push ∙ λ i. states_after (sym is_push i) (lens i);
            are_extremities = extremities-push ∙ ap forward_extremities (sym is_push);
            is_current = current-push ∙ ap current_state (sym is_push);
            knows = knows-push;
            knows_before = all-push (λ i. Knows (rows ++ r ∷ []) i.before) js j (λ i d l. knows-longer rows r ((get_or js i d).before) (old.knows_before i d l)) (knows-longer rows r j.before next.knows_before);
            knows_current = knows_current;
            below = below-push;
          }

-- the current state that is kept is the resolution of the states after the forward extremities
pub current-is : (rows : List Row) (js : List Judged) (exts : List ℕ) (cur : State) → IsKept rows js exts cur → cur ≡ resolve_in rows (states_at (afters js) exts)
unfolding current_state
current-is rows js exts cur kept =
    let same : afters js ≡ states_after (kept_of rows js) (length (kept_of rows js)) = kept.afters ∙ ap (states_after (kept_of rows js)) (sym (kept_of-length rows js kept.count)) in
    kept.is_current ∙ sym (λ i. resolve_in (kept.are_kept i) (states_at (same i) (kept.are_extremities i)))

-- ---- the verdict and the state before, from what is kept

module _ (rows : List Row) (js : List Judged) (exts : List ℕ) (cur : State) (kept : IsKept rows js exts cur) (e : Event) where
  pub before-is : resolve_in rows (states_at (afters js) (events_where rows (is_in (prev_events rows e)))) ≡ state_before_next (kept_of rows js) e
  unfolding state_before_next before_event
  before-is =
      let same : afters js ≡ states_after (kept_of rows js) (length (kept_of rows js)) = kept.afters ∙ ap (states_after (kept_of rows js)) (sym (kept_of-length rows js kept.count)) in
      λ i. resolve_in (kept.are_kept i) (states_at (same i) (events_where (kept.are_kept i) (is_in (prev_events (kept.are_kept i) e))))

  pub verdict-is : (before : State) → before ≡ state_before_next (kept_of rows js) e
      → accept_or Rejected (auth_failure rows e) (accept_or Rejected (rules (version_in rows) e (view rows before)) (accept_or SoftFailed (rules (version_in rows) e (view rows cur)) Accepted)) ≡ verdict (kept_of rows js) e
  unfolding verdict
  verdict-is before b = λ i.
      accept_or Rejected (auth_failure (kept.are_kept i) e)
      (accept_or Rejected (rules (version_in (kept.are_kept i)) e (view (kept.are_kept i) (b i))) (accept_or SoftFailed (rules (version_in (kept.are_kept i)) e (view (kept.are_kept i) (kept.is_current i))) Accepted))
