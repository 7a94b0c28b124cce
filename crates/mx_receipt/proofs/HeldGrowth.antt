-- What is kept, with numbered states, after one more row.
use Rattle.std.proofs.Common.{◌≡◌, ◌<◌, ◌+◌, ◌++◌, ℕ, zero, suc, List, [], ◌∷◌, length, sym, ap, subst, ◌∙◌, arith}
use Rattle.std.proofs.lemmas.List.{length-append, length-map, map-append}
use Rattle.std.proofs.lemmas.List.Elements.{All-append, All-get_or}
use Rattle.std.specs.List.{All}
use Rattle.mx_graph.specs.Graph.{IsSound}
use Rattle.mx_graph.specs.Record.{Row}
use Rattle.mx_graph.specs.StateMap.{State}
use Rattle.mx_state_res.specs.Numbered.{AreAdded, AreKnown}
use Rattle.mx_states.specs.Numbered.{state_at}
use Rattle.mx_receipt.specs.Receipt.{resolve_in, states_at, verdict}
use Rattle.mx_receipt.specs.Judgements.{AreBelow, ArePast, IsHeld, IsJudged, IsKept, WereJudged, afters, currents, is_marked, judged_by, judged_in, kept_of, kept_row, verdicts_in}
use Rattle.mx_receipt.specs.declared.snapshots.Judgement.{Judgement}
use Rattle.mx_receipt.proofs.HeldLemmas.{added-below, added-judged, added-twice, all-known, judged-length, judged-push, known-longer}
use Rattle.mx_receipt.proofs.JudgedLemmas.{were-push}
use Rattle.mx_receipt.proofs.KeptLemmas.{below-push, kept-push}
use Rattle.mx_receipt.proofs.RecordLemmas.{kept_of-length, kept_of-push}

module _ (rows : List Row) (old : List State) (js : List Judgement) (exts : List ℕ) (cur : ℕ) (held : IsHeld rows old js exts cur)
    (r : Row) (j : Judgement) (exts' : List ℕ) (mid : List State)
    (is_judged : IsJudged rows (judged_in old js) exts r (judged_by mid j) exts')
    (numbers : (j.before < length mid) × (j.after < length mid))
    (added : (rs : List Row) → length rows < length rs → AreAdded rs old mid) where
  one_more : length rows < length (rows ++ r ∷ [])
  one_more = let e : length (rows ++ r ∷ []) ≡ length rows + 1 = length-append rows (r ∷ []) in omega arith

  pub known-mid : AreKnown (rows ++ r ∷ []) mid
  known-mid = all-known (rows ++ r ∷ []) old mid (known-longer rows (rows ++ r ∷ []) old one_more held.known) (added (rows ++ r ∷ []) one_more)

  only : AreBelow (length mid) (j ∷ [])
  only zero d l = numbers
  only (suc k) d l = absurd (omega arith)

  pub numbers-mid : AreBelow (length mid) (js ++ j ∷ [])
  numbers-mid =
      All-append (λ (i : Judgement). (i.before < length mid) × (i.after < length mid)) js (j ∷ [])
      (added-below (rows ++ r ∷ []) old mid js (added (rows ++ r ∷ []) one_more) held.below) only

  -- the judgements of more states are those of fewer, and the new one
  are-mid : judged_in mid (js ++ j ∷ []) ≡ judged_in old js ++ judged_by mid j ∷ []
  are-mid = judged-push mid js j ∙ ap (λ is. is ++ judged_by mid j ∷ []) (added-judged (rows ++ r ∷ []) old mid js (added (rows ++ r ∷ []) one_more) held.below)

  pub extremities-mid : All (λ p. p < length (js ++ j ∷ [])) exts'
  extremities-mid =
      subst (λ n. All (λ p. p < n) exts') (ap length (sym are-mid) ∙ judged-length mid (js ++ j ∷ []))
      (below-push rows (judged_in old js) exts (state_at old cur) held.is_kept r (judged_by mid j) exts' is_judged)

  module _ (sound : IsSound rows) (after : IsSound (rows ++ r ∷ [])) (new : List State) (more : AreAdded (rows ++ r ∷ []) mid new) (cur' : ℕ) (below : cur' < length new)
      (current : state_at new cur' ≡ resolve_in (rows ++ r ∷ []) (states_at (afters (judged_in mid (js ++ j ∷ []))) exts'))
      (past : ArePast (rows ++ r ∷ []) (verdicts_in (js ++ j ∷ [])) exts' (is_marked (js ++ j ∷ [])))
      (came_at : j.current ≡ cur) (is_verdict : 0 < length rows → j.verdict ≡ verdict (kept_of rows (judged_in old js)) r.event) where
    known-new : AreKnown (rows ++ r ∷ []) new
    known-new = all-known (rows ++ r ∷ []) mid new known-mid more

    are-new : judged_in new (js ++ j ∷ []) ≡ judged_in old js ++ judged_by mid j ∷ []
    are-new = added-judged (rows ++ r ∷ []) mid new (js ++ j ∷ []) more numbers-mid ∙ are-mid

    were : WereJudged new (currents (js ++ j ∷ [])) (kept_of (rows ++ r ∷ []) (judged_in new (js ++ j ∷ [])))
    were =
        let K = kept_of rows (judged_in old js) in
        let k = kept_row r (judged_by mid j) in
        let all : AreAdded (rows ++ r ∷ []) old new = added-twice (rows ++ r ∷ []) old mid new (added (rows ++ r ∷ []) one_more) more in
        let many : length K ≡ length js = kept_of-length rows (judged_in old js) held.is_kept.count ∙ judged-length old js in
        let base : WereJudged (old ++ all.more) (currents js ++ j.current ∷ []) (K ++ k ∷ []) =
        were-push K k old all.more (currents js) j.current (length-map js (λ (i : Judgement). i.current) ∙ sym many) held.judged
        (subst (λ n. n < length old) (sym came_at) held.below_current) (ap (state_at old) came_at ∙ held.is_kept.is_current)
        (λ l. is_verdict (let e : length rows ≡ length js = held.is_kept.count ∙ judged-length old js in let f : length K ≡ length js = many in omega arith)) in
        subst (λ ss. WereJudged ss (currents (js ++ j ∷ [])) (kept_of (rows ++ r ∷ []) (judged_in new (js ++ j ∷ [])))) (sym all.are)
        (subst (λ ns. WereJudged (old ++ all.more) ns (kept_of (rows ++ r ∷ []) (judged_in new (js ++ j ∷ [])))) (sym (map-append (λ (i : Judgement). i.current) js (j ∷ [])))
        (subst (WereJudged (old ++ all.more) (currents js ++ j.current ∷ []))
        (sym (ap (kept_of (rows ++ r ∷ [])) are-new ∙ kept_of-push rows (judged_in old js) r (judged_by mid j) held.is_kept.count)) base))

    pub held-push : IsHeld (rows ++ r ∷ []) new (js ++ j ∷ []) exts' cur'
    held-push = record {
      is_kept =
          subst (λ is. IsKept (rows ++ r ∷ []) is exts' (state_at new cur')) (sym are-new)
          (kept-push rows (judged_in old js) exts (state_at old cur) held.is_kept r (judged_by mid j) exts' is_judged sound after (state_at new cur')
          (current ∙ ap (λ is. resolve_in (rows ++ r ∷ []) (states_at (afters is) exts')) are-mid)
          (All-get_or (λ s. All (λ e. e.1 < length (rows ++ r ∷ [])) s) new cur' [] below known-new));
      below = added-below (rows ++ r ∷ []) mid new (js ++ j ∷ []) more numbers-mid;
      below_current = below;
      known = known-new;
      past = past;
      judged = were;
    }
