use Rattle.std.proofs.Common.{◌≡◌, List, length, refl, sym, ap, subst, ◌∙◌}
use Rattle.std.specs.Prelude.{if◌then◌else◌}
use Rattle.mx_auth.specs.Rules.{rules}
use Rattle.mx_graph.specs.Edges.{Rises}
use Rattle.mx_graph.specs.Record.{is_in, events_where, prev_events}
use Rattle.mx_orders.specs.StateMap.{with_event, view}
use Rattle.mx_states.specs.Numbered.{state_at}
use Rattle.mx_receipt.specs.Receipt.{resolve_in, version_in}
use Rattle.mx_receipt.specs.Judgements.{Judged, judged_in, kept_of, afters, verdicts_in, AreAfter, AreCovered, Knows, replaced}
use Rattle.mx_receipt.specs.Receipt.{states_at, state_before_next, is_rejected, accept_or, auth_failure}
use Rattle.mx_receipt.specs.declared.verdicts.Verdict.TheVariants.{Accepted, SoftFailed, Rejected}
use Rattle.mx_receipt.proofs.ExtremityLemmas.{extremities-rise}
use Rattle.mx_receipt.proofs.HeldLemmas.{added-state, event-added, grown-state, known-state, same-verdicts}
use Rattle.mx_receipt.proofs.KeptLemmas.{before-is, current-is, verdict-is}
use Rattle.mx_receipt.proofs.ResolutionLemmas.{right-grown}
use Rattle.mx_receipt.proofs.SortedStateLemmas.{held-sorted}
use Rattle.mx_receipt.proofs.receiving.judged_event.Goals as goal

pub state_before-requires-clause-sorted : goal.state_before-requires-clause-sorted
state_before-requires-clause-sorted c = held-sorted c.args.graph.now c.args.states.now c.args.judgements.now c.args.latest.now.extremities.now c.args.latest.now.current c.requires.held

pub state_before-requires-clause-current : goal.state_before-requires-clause-current
state_before-requires-clause-current c =
    current-is c.args.graph.now (judged_in c.args.states.now c.args.judgements.now) c.args.latest.now.extremities.now (state_at c.args.states.now c.args.latest.now.current) c.requires.held.is_kept

pub returns-clause-verdict : goal.returns-clause-verdict
returns-clause-verdict c =
    let js : List Judged = judged_in c.args.states.now c.args.judgements.now in
    let prevs : c.deref.result.now ≡ prev_events c.args.graph.now c.args.citing.now.event.now = c.deref.ensures.value ∙ c.requires.prev in
    let before : state_at c.state_before.new.states c.in_ok-before.before ≡ state_before_next (kept_of c.args.graph.now js) c.args.citing.now.event.now =
    c.in_ok-before.ensures.resolved ∙ ap (λ xs. resolve_in c.args.graph.now (states_at (afters js) (events_where c.args.graph.now (is_in xs)))) prevs
    ∙ before-is c.args.graph.now js c.args.latest.now.extremities.now (state_at c.args.states.now c.args.latest.now.current) c.requires.held.is_kept c.args.citing.now.event.now in
    let current : state_at c.state_before.new.states c.args.latest.now.current ≡ state_at c.args.states.now c.args.latest.now.current =
    added-state c.args.graph.now c.args.states.now c.state_before.new.states c.args.latest.now.current c.in_ok-before.ensures.added c.requires.held.below_current in
    c.in_ok-verdict.ensures
    ∙ ap (λ s. accept_or Rejected (auth_failure c.args.graph.now c.args.citing.now.event.now) (accept_or Rejected (rules (version_in c.args.graph.now) c.args.citing.now.event.now (view c.args.graph.now (state_at c.state_before.new.states c.in_ok-before.before))) (accept_or SoftFailed (rules (version_in c.args.graph.now) c.args.citing.now.event.now (view c.args.graph.now s)) Accepted))) current
    ∙ verdict-is c.args.graph.now js c.args.latest.now.extremities.now (state_at c.args.states.now c.args.latest.now.current) c.requires.held.is_kept c.args.citing.now.event.now (state_at c.state_before.new.states c.in_ok-before.before) before

pub returns-clause-judged : goal.returns-clause-judged
returns-clause-judged c = λ id.
    let js : List Judged = judged_in c.args.states.now c.args.judgements.now in
    let prevs : c.deref.result.now ≡ prev_events c.args.graph.now c.args.citing.now.event.now = c.deref.ensures.value ∙ c.requires.prev in
    let prevs-3 : c.deref-3.result.now ≡ prev_events c.args.graph.now c.args.citing.now.event.now = c.deref-3.ensures.value ∙ c.requires.prev in
    let stays : state_at c.state_after.new.states c.in_ok-before.before ≡ state_at c.state_before.new.states c.in_ok-before.before =
    grown-state c.state_before.new.states c.in_ok-after.ensures.grown.0 c.state_after.new.states c.in_ok-before.before c.in_ok-after.ensures.grown.1 c.in_ok-before.ensures.below in
    record {
      flag = refl;
      before =
          stays ∙ c.in_ok-before.ensures.resolved ∙ ap (λ xs. resolve_in c.args.graph.now (states_at (afters js) (events_where c.args.graph.now (is_in xs)))) prevs
          ∙ before-is c.args.graph.now js c.args.latest.now.extremities.now (state_at c.args.states.now c.args.latest.now.current) c.requires.held.is_kept c.args.citing.now.event.now;
      after =
          c.in_ok-after.ensures.after ∙ (λ i. if is_rejected c.in_ok-verdict.verdict then sym stays i else with_event (sym stays i) c.args.citing.now.event.now (c.next_number-number.ensures i));
      knows_before = subst (Knows c.args.graph.now) (sym stays) (known-state c.args.graph.now c.args.states.now c.state_before.new.states c.in_ok-before.before c.requires.held.known c.in_ok-before.ensures.added c.in_ok-before.ensures.below);
      are_next =
          subst (λ vs. AreAfter c.args.graph.now vs (prev_events c.args.graph.now c.args.citing.now.event.now) c.args.latest.now.extremities.now (length c.args.graph.now) c.in_ok-verdict.verdict c.in_ok-next.next.extremities.items) (sym (same-verdicts c.args.states.now c.args.judgements.now))
          (subst (λ n. AreAfter c.args.graph.now (verdicts_in c.args.judgements.now) (prev_events c.args.graph.now c.args.citing.now.event.now) c.args.latest.now.extremities.now n c.in_ok-verdict.verdict c.in_ok-next.next.extremities.items) c.next_number-number.ensures
          (subst (λ xs. AreAfter c.args.graph.now (verdicts_in c.args.judgements.now) xs c.args.latest.now.extremities.now c.next_number-number.result c.in_ok-verdict.verdict c.in_ok-next.next.extremities.items) prevs-3 c.in_ok-next.ensures.after));
    }

pub returns-in_err-after-clause-added : goal.returns-in_err-after-clause-added
returns-in_err-after-clause-added c = λ rows l.
    event-added c.args.graph.now rows c.args.states.now c.state_before.new.states c.state_after.new.states c.next_number-number.result l c.requires.held.known c.state_before.ensures.added c.next_number-number.ensures c.state_after.ensures.added

pub returns-in_err-next-clause-added : goal.returns-in_err-next-clause-added
returns-in_err-next-clause-added c = λ rows l.
    event-added c.args.graph.now rows c.args.states.now c.state_before.new.states c.state_after.new.states c.next_number-number.result l c.requires.held.known c.state_before.ensures.added c.next_number-number.ensures c.state_after.ensures.added

pub returns-clause-added : goal.returns-clause-added
returns-clause-added c = λ rows l.
    event-added c.args.graph.now rows c.args.states.now c.state_before.new.states c.state_after.new.states c.next_number-number.result l c.requires.held.known c.state_before.ensures.added c.next_number-number.ensures c.state_after.ensures.added

pub extremities_after-requires-clause-rises : goal.extremities_after-requires-clause-rises
extremities_after-requires-clause-rises c = subst Rises (sym c.requires.held.is_kept.are_extremities) (extremities-rise (kept_of c.args.graph.now (judged_in c.args.states.now c.args.judgements.now)))

pub returns-clause-right : goal.returns-clause-right
returns-clause-right c =
    right-grown c.args.graph.now c.state_before.new.states c.in_ok-after.ensures.grown.0 c.state_after.new.states c.state_before.new.resolutions c.in_ok-after.ensures.grown.1 c.in_ok-before.ensures.right

pub returns-clause-covered : goal.returns-clause-covered
returns-clause-covered c =
    subst (λ xs. AreCovered c.args.graph.now c.args.judgements.now xs c.in_ok-verdict.verdict c.in_ok-next.next.covered.items) (c.deref-3.ensures.value ∙ c.requires.prev) c.in_ok-next.ensures.covered

pub returns-clause-replaced : goal.returns-clause-replaced
returns-clause-replaced c =
    c.in_ok-next.ensures.replaced ∙ ap (replaced c.in_ok-verdict.verdict c.in_ok-next.next.covered.items c.args.latest.now.extremities.now) c.next_number-number.ensures
