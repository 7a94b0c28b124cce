use Rattle.std.proofs.Common.{◌≡◌, ◌<◌, ◌||◌, ◌++◌, ◌∷◌, [], ℕ, List, length, sym, ap, subst, ◌∙◌}
use Rattle.std.specs.List.{All}
use Rattle.mx_graph.specs.Graph.{IsSound}
use Rattle.mx_graph.specs.Record.{Row, is_in, prev_events}
use Rattle.mx_graph.proofs.Closure.{or_left}
use Rattle.mx_state_res.specs.Numbered.{AreAdded}
use Rattle.mx_receipt.specs.Receipt.{resolve_in}
use Rattle.mx_receipt.specs.Judgements.{AreAfter, AreCovered, ArePast, IsHeld, IsJudged, is_marked, judged_by, judged_in, kept_of, afters, numbers_at, verdicts_in}
use Rattle.mx_receipt.specs.Receipt.{states_at, verdict, is_rejected}
use Rattle.mx_receipt.specs.Resolutions.{IsResolution}
use Rattle.mx_receipt.specs.declared.snapshots.Judgement.{Judgement}
use Rattle.mx_receipt.proofs.HeldGrowth.{known-mid, numbers-mid, extremities-mid, held-push}
use Rattle.mx_receipt.proofs.HeldLemmas.{added-twice, grown-by-event, judged-length, one-longer, same-verdicts}
use Rattle.mx_receipt.proofs.CoverLemmas.{in-all}
use Rattle.mx_receipt.proofs.PastLemmas.{past-fewer, past-push}
use Rattle.mx_receipt.proofs.SortedStateLemmas.{held-sorted, judged-sorted, sorted-push}
use Rattle.mx_receipt.proofs.StayingLemmas.{covered-known, held-stays, known-stays}
use Rattle.mx_receipt.proofs.TimelineLemmas.{taken-free}
use Rattle.mx_receipt.proofs.receiving.prepare_checked_in.Goals as goal

pub add-requires-clause-free : goal.add-requires-clause-free
add-requires-clause-free c = taken-free c.args.graph.now c.args.taken.id c.args.taken.event c.is_rejected.result c.requires.free

pub add-requires-clause-known : goal.add-requires-clause-known
add-requires-clause-known c =
    known-mid c.args.graph.now c.args.states.now c.args.judgements.now.items c.args.latest.now.extremities.now c.args.latest.now.current c.requires.held
    (record { id = c.args.taken.id; event = c.args.taken.event; rejected = c.is_rejected.result }) c.in_ok-judged.judged.judgement c.in_ok-judged.judged.extremities.items c.judged_event.new.states
    (subst (λ b. IsJudged c.args.graph.now (judged_in c.args.states.now c.args.judgements.now.items) c.args.latest.now.extremities.now (record { id = c.args.taken.id; event = c.args.taken.event; rejected = b }) (judged_by c.judged_event.new.states c.in_ok-judged.judged.judgement) c.in_ok-judged.judged.extremities.items)
    (sym c.is_rejected.ensures)
    (subst (λ (js : List Judgement). IsJudged c.args.graph.now (judged_in c.args.states.now js) c.args.latest.now.extremities.now (record { id = c.args.taken.id; event = c.args.taken.event; rejected = is_rejected c.in_ok-judged.judged.judgement.verdict }) (judged_by c.judged_event.new.states c.in_ok-judged.judged.judgement) c.in_ok-judged.judged.extremities.items)
    c.deref.ensures.value (c.in_ok-judged.ensures.judged c.args.taken.id)))
    c.in_ok-judged.ensures.below c.in_ok-judged.ensures.added

pub add-requires-clause-numbers : goal.add-requires-clause-numbers
add-requires-clause-numbers c =
    numbers-mid c.args.graph.now c.args.states.now c.args.judgements.now.items c.args.latest.now.extremities.now c.args.latest.now.current c.requires.held
    (record { id = c.args.taken.id; event = c.args.taken.event; rejected = c.is_rejected.result }) c.in_ok-judged.judged.judgement c.in_ok-judged.judged.extremities.items c.judged_event.new.states
    (subst (λ b. IsJudged c.args.graph.now (judged_in c.args.states.now c.args.judgements.now.items) c.args.latest.now.extremities.now (record { id = c.args.taken.id; event = c.args.taken.event; rejected = b }) (judged_by c.judged_event.new.states c.in_ok-judged.judged.judgement) c.in_ok-judged.judged.extremities.items)
    (sym c.is_rejected.ensures)
    (subst (λ (js : List Judgement). IsJudged c.args.graph.now (judged_in c.args.states.now js) c.args.latest.now.extremities.now (record { id = c.args.taken.id; event = c.args.taken.event; rejected = is_rejected c.in_ok-judged.judged.judgement.verdict }) (judged_by c.judged_event.new.states c.in_ok-judged.judged.judgement) c.in_ok-judged.judged.extremities.items)
    c.deref.ensures.value (c.in_ok-judged.ensures.judged c.args.taken.id)))
    c.in_ok-judged.ensures.below c.in_ok-judged.ensures.added

pub add-requires-clause-sorted : goal.add-requires-clause-sorted
add-requires-clause-sorted c =
    let js = c.args.judgements.now.items in
    let r : Row = record { id = c.args.taken.id; event = c.args.taken.event; rejected = is_rejected c.in_ok-judged.judged.judgement.verdict } in
    let same : IsJudged c.args.graph.now (judged_in c.args.states.now js) c.args.latest.now.extremities.now r (judged_by c.judged_event.new.states c.in_ok-judged.judged.judgement) c.in_ok-judged.judged.extremities.items =
    subst (λ (is : List Judgement). IsJudged c.args.graph.now (judged_in c.args.states.now is) c.args.latest.now.extremities.now r (judged_by c.judged_event.new.states c.in_ok-judged.judged.judgement) c.in_ok-judged.judged.extremities.items)
    c.deref.ensures.value (c.in_ok-judged.ensures.judged c.args.taken.id) in
    sorted-push (c.args.graph.now ++ r ∷ []) c.args.states.now c.judged_event.new.states js c.in_ok-judged.judged.judgement
    (c.in_ok-judged.ensures.added (c.args.graph.now ++ r ∷ []) (one-longer c.args.graph.now r)) c.requires.held.below
    (held-sorted c.args.graph.now c.args.states.now js c.args.latest.now.extremities.now c.args.latest.now.current c.requires.held)
    (judged-sorted c.args.graph.now c.args.states.now js c.args.latest.now.extremities.now c.args.latest.now.current c.requires.held r (judged_by c.judged_event.new.states c.in_ok-judged.judged.judgement) c.in_ok-judged.judged.extremities.items same)

pub add-requires-clause-below : goal.add-requires-clause-below
add-requires-clause-below c =
    extremities-mid c.args.graph.now c.args.states.now c.args.judgements.now.items c.args.latest.now.extremities.now c.args.latest.now.current c.requires.held
    (record { id = c.args.taken.id; event = c.args.taken.event; rejected = c.is_rejected.result }) c.in_ok-judged.judged.judgement c.in_ok-judged.judged.extremities.items c.judged_event.new.states
    (subst (λ b. IsJudged c.args.graph.now (judged_in c.args.states.now c.args.judgements.now.items) c.args.latest.now.extremities.now (record { id = c.args.taken.id; event = c.args.taken.event; rejected = b }) (judged_by c.judged_event.new.states c.in_ok-judged.judged.judgement) c.in_ok-judged.judged.extremities.items)
    (sym c.is_rejected.ensures)
    (subst (λ (js : List Judgement). IsJudged c.args.graph.now (judged_in c.args.states.now js) c.args.latest.now.extremities.now (record { id = c.args.taken.id; event = c.args.taken.event; rejected = is_rejected c.in_ok-judged.judged.judgement.verdict }) (judged_by c.judged_event.new.states c.in_ok-judged.judged.judgement) c.in_ok-judged.judged.extremities.items)
    c.deref.ensures.value (c.in_ok-judged.ensures.judged c.args.taken.id)))
    c.in_ok-judged.ensures.below c.in_ok-judged.ensures.added

pub returns-clause-added : goal.returns-clause-added
returns-clause-added c =
    let row : Row = record { id = c.args.taken.id; event = c.args.taken.event; rejected = c.is_rejected.result } in
    let rows : c.add.new.graph ≡ c.args.graph.now ++ row ∷ [] = c.in_ok-prepared.ensures.rows in
    let judgements : c.add.new.judgements.items ≡ c.args.judgements.now.items ++ c.in_ok-judged.judged.judgement ∷ [] = c.in_ok-prepared.ensures.judgements in
    let more : AreAdded (c.args.graph.now ++ row ∷ []) c.args.states.now c.add.new.states =
    added-twice (c.args.graph.now ++ row ∷ []) c.args.states.now c.judged_event.new.states c.add.new.states
    (c.in_ok-judged.ensures.added (c.args.graph.now ++ row ∷ []) (one-longer c.args.graph.now row)) c.in_ok-prepared.ensures.added in
    let js = c.args.judgements.now.items in
    let verdicts : verdicts_in c.deref.result.now ≡ verdicts_in js = ap verdicts_in c.deref.ensures.value in
    let past : ArePast (c.args.graph.now ++ row ∷ []) (verdicts_in (js ++ c.in_ok-judged.judged.judgement ∷ [])) c.in_ok-judged.judged.extremities.items (λ p. is_marked (js ++ c.in_ok-judged.judged.judgement ∷ []) p || is_in c.in_ok-judged.judged.covered.items p) =
    past-push c.args.graph.now row js c.in_ok-judged.judged.judgement c.args.latest.now.extremities.now c.in_ok-judged.judged.extremities.items
    (c.requires.held.is_kept.count ∙ judged-length c.args.states.now js) c.graph_is_sound.ensures (subst IsSound rows c.graph_is_sound-2.ensures) c.requires.held.past c.in_ok-judged.ensures.unmarked
    c.in_ok-judged.judged.judgement.verdict c.in_ok-judged.judged.covered.items
    (subst (λ vs. AreAfter c.args.graph.now vs (prev_events c.args.graph.now c.args.taken.event) c.args.latest.now.extremities.now (length c.args.graph.now) c.in_ok-judged.judged.judgement.verdict c.in_ok-judged.judged.extremities.items)
    (same-verdicts c.args.states.now c.deref.result.now ∙ verdicts) (c.in_ok-judged.ensures.judged c.args.taken.id).are_next)
    (subst (λ (is : List Judgement). AreCovered c.args.graph.now is (prev_events c.args.graph.now c.args.taken.event) c.in_ok-judged.judged.judgement.verdict c.in_ok-judged.judged.covered.items) c.deref.ensures.value c.in_ok-judged.ensures.covered)
    (λ p e. in-all (λ q. q < length c.args.graph.now) (prev_events c.args.graph.now c.args.taken.event) p (subst (All (λ q. q < length c.args.graph.now)) c.in_ok-cited.ensures.prev c.in_ok-cited.ensures.known_prev) e) in
    let is_verdict : c.in_ok-judged.judged.judgement.verdict ≡ verdict (kept_of c.args.graph.now (judged_in c.args.states.now js)) c.args.taken.event =
    c.in_ok-judged.ensures.verdict ∙ ap (λ (is : List Judgement). verdict (kept_of c.args.graph.now (judged_in c.args.states.now is)) c.args.taken.event) c.deref.ensures.value in
    let base : IsHeld (c.args.graph.now ++ row ∷ []) c.add.new.states (c.args.judgements.now.items ++ c.in_ok-judged.judged.judgement ∷ []) c.in_ok-judged.judged.extremities.items c.in_ok-prepared.prepared.current =
    held-push c.args.graph.now c.args.states.now c.args.judgements.now.items c.args.latest.now.extremities.now c.args.latest.now.current c.requires.held
    (record { id = c.args.taken.id; event = c.args.taken.event; rejected = c.is_rejected.result }) c.in_ok-judged.judged.judgement c.in_ok-judged.judged.extremities.items c.judged_event.new.states
    (subst (λ b. IsJudged c.args.graph.now (judged_in c.args.states.now c.args.judgements.now.items) c.args.latest.now.extremities.now (record { id = c.args.taken.id; event = c.args.taken.event; rejected = b }) (judged_by c.judged_event.new.states c.in_ok-judged.judged.judgement) c.in_ok-judged.judged.extremities.items)
    (sym c.is_rejected.ensures)
    (subst (λ (js : List Judgement). IsJudged c.args.graph.now (judged_in c.args.states.now js) c.args.latest.now.extremities.now (record { id = c.args.taken.id; event = c.args.taken.event; rejected = is_rejected c.in_ok-judged.judged.judgement.verdict }) (judged_by c.judged_event.new.states c.in_ok-judged.judged.judgement) c.in_ok-judged.judged.extremities.items)
    c.deref.ensures.value (c.in_ok-judged.ensures.judged c.args.taken.id)))
    c.in_ok-judged.ensures.below c.in_ok-judged.ensures.added
    c.graph_is_sound.ensures (subst IsSound rows c.graph_is_sound-2.ensures) c.add.new.states c.in_ok-prepared.ensures.added c.in_ok-prepared.prepared.current c.in_ok-prepared.ensures.below_current
    (c.in_ok-prepared.ensures.current ∙ λ i. resolve_in (rows i) (states_at (afters (judged_in c.judged_event.new.states (judgements i))) c.in_ok-judged.judged.extremities.items))
    (past-fewer (c.args.graph.now ++ row ∷ []) (verdicts_in (c.args.judgements.now.items ++ c.in_ok-judged.judged.judgement ∷ [])) c.in_ok-judged.judged.extremities.items
    (λ p. is_marked (c.args.judgements.now.items ++ c.in_ok-judged.judged.judgement ∷ []) p || is_in c.in_ok-judged.judged.covered.items p) (is_marked (c.args.judgements.now.items ++ c.in_ok-judged.judged.judgement ∷ []))
    (λ p e. or_left (is_marked (c.args.judgements.now.items ++ c.in_ok-judged.judged.judgement ∷ []) p) (is_in c.in_ok-judged.judged.covered.items p) e) past)
    c.in_ok-judged.ensures.current (λ l. is_verdict) in
    record {
      judgement = c.in_ok-judged.judged.judgement;
      more = more.more;
      is_verdict = is_verdict;
      are_rows = rows ∙ ap (λ b. c.args.graph.now ++ record { id = c.args.taken.id; event = c.args.taken.event; rejected = b } ∷ []) c.is_rejected.ensures;
      are_states = more.are;
      are_judgements = judgements;
      is_held =
          subst (λ rs. IsHeld rs c.add.new.states c.add.new.judgements.items c.in_ok-prepared.prepared.extremities.items c.in_ok-prepared.prepared.current) (sym rows)
          (subst (λ (js : List Judgement). IsHeld (c.args.graph.now ++ row ∷ []) c.add.new.states js c.in_ok-prepared.prepared.extremities.items c.in_ok-prepared.prepared.current) (sym judgements)
          (subst (λ es. IsHeld (c.args.graph.now ++ row ∷ []) c.add.new.states (c.args.judgements.now.items ++ c.in_ok-judged.judged.judgement ∷ []) es c.in_ok-prepared.prepared.current) (sym c.in_ok-prepared.ensures.extremities) base));
      past =
          subst (λ rs. ArePast rs (verdicts_in c.add.new.judgements.items) c.in_ok-prepared.prepared.extremities.items (λ p. is_marked c.add.new.judgements.items p || is_in c.in_ok-prepared.prepared.covered.items p)) (sym rows)
          (subst (λ (is : List Judgement). ArePast (c.args.graph.now ++ row ∷ []) (verdicts_in is) c.in_ok-prepared.prepared.extremities.items (λ p. is_marked is p || is_in c.in_ok-prepared.prepared.covered.items p)) (sym judgements)
          (subst (λ es. ArePast (c.args.graph.now ++ row ∷ []) (verdicts_in (js ++ c.in_ok-judged.judged.judgement ∷ [])) es (λ p. is_marked (js ++ c.in_ok-judged.judged.judgement ∷ []) p || is_in c.in_ok-prepared.prepared.covered.items p)) (sym c.in_ok-prepared.ensures.extremities)
          (subst (λ cs. ArePast (c.args.graph.now ++ row ∷ []) (verdicts_in (js ++ c.in_ok-judged.judged.judgement ∷ [])) c.in_ok-judged.judged.extremities.items (λ p. is_marked (js ++ c.in_ok-judged.judged.judgement ∷ []) p || is_in cs p)) (sym c.in_ok-prepared.ensures.covered) past)));
    }

pub returns-in_err-judged-clause-grown : goal.returns-in_err-judged-clause-grown
returns-in_err-judged-clause-grown c = grown-by-event c.args.graph.now c.args.states.now c.judged_event.new.states c.judged_event.ensures.added

pub returns-clause-grown : goal.returns-clause-grown
returns-clause-grown c =
    let row : Row = record { id = c.args.taken.id; event = c.args.taken.event; rejected = c.is_rejected.result } in
    let more : AreAdded (c.args.graph.now ++ row ∷ []) c.args.states.now c.add.new.states =
    added-twice (c.args.graph.now ++ row ∷ []) c.args.states.now c.judged_event.new.states c.add.new.states
    (c.judged_event.ensures.added (c.args.graph.now ++ row ∷ []) (one-longer c.args.graph.now row)) c.add.ensures.added in
    (more.more, more.are)

pub current_that_stays-current-requires-clause-covered : goal.current_that_stays-current-requires-clause-covered
current_that_stays-current-requires-clause-covered c =
    subst (λ n. All (λ p. p < n) c.in_ok-judged.judged.covered.items) (c.requires.held.is_kept.count ∙ judged-length c.args.states.now c.args.judgements.now.items ∙ ap length (sym c.deref-2.ensures.value))
    (covered-known c.args.graph.now c.deref.result.now (prev_events c.args.graph.now c.args.taken.event) c.in_ok-judged.judged.judgement.verdict c.in_ok-judged.judged.covered.items c.graph_is_sound.ensures
    (subst (All (λ q. q < length c.args.graph.now)) c.in_ok-cited.ensures.prev c.in_ok-cited.ensures.known_prev) c.in_ok-judged.ensures.covered)

pub add-requires-clause-current : goal.add-requires-clause-current
add-requires-clause-current c =
    let js = c.args.judgements.now.items in
    let grown = grown-by-event c.args.graph.now c.args.states.now c.judged_event.new.states c.judged_event.ensures.added in
    known-stays (IsResolution c.args.graph.now c.judged_event.new.states (numbers_at (js ++ c.in_ok-judged.judged.judgement ∷ []) c.in_ok-judged.judged.extremities.items))
    ((n : ℕ) → is_in (numbers_at (c.deref-2.result.now ++ c.in_ok-judged.judged.judgement ∷ []) c.in_ok-judged.judged.extremities.items) n ≡ is_in (numbers_at c.deref-2.result.now c.args.latest.now.extremities.now) n)
    c.args.latest.now.current c.current_that_stays-current.result c.current_that_stays-current.ensures.current c.current_that_stays-current.ensures.same
    (λ same. held-stays c.args.graph.now c.args.states.now grown.0 c.judged_event.new.states js (js ++ c.in_ok-judged.judged.judgement ∷ []) c.args.latest.now.extremities.now c.in_ok-judged.judged.extremities.items
    c.args.latest.now.current c.requires.held grown.1
    (subst (λ (is : List Judgement). (n : ℕ) → is_in (numbers_at (is ++ c.in_ok-judged.judged.judgement ∷ []) c.in_ok-judged.judged.extremities.items) n ≡ is_in (numbers_at is c.args.latest.now.extremities.now) n) c.deref-2.ensures.value same))

pub returns-in_err-prepared-clause-grown : goal.returns-in_err-prepared-clause-grown
returns-in_err-prepared-clause-grown c =
    let row : Row = record { id = c.args.taken.id; event = c.args.taken.event; rejected = c.is_rejected.result } in
    let more : AreAdded (c.args.graph.now ++ row ∷ []) c.args.states.now c.add.new.states =
    added-twice (c.args.graph.now ++ row ∷ []) c.args.states.now c.judged_event.new.states c.add.new.states
    (c.judged_event.ensures.added (c.args.graph.now ++ row ∷ []) (one-longer c.args.graph.now row)) c.add.ensures.added in
    (more.more, more.are)
