use Rattle.std.proofs.Common.{◌≡◌, ◌<◌, true, length, refl, sym, ap, subst, ◌∙◌}
use Rattle.std.proofs.lemmas.Bool.Decides.{Decides-eqb}
use Rattle.std.proofs.lemmas.Slice.Eq.{slice_eq-Decides}
use Rattle.std.specs.List.{All}
use Rattle.mx_graph.specs.Record.{is_in, events_where}
use Rattle.mx_graph.proofs.Closure.{all-in}
use Rattle.mx_state_res.proofs.SetLemmas.{rising-is}
use Rattle.mx_receipt.specs.Receipt.{resolve_in}
use Rattle.mx_receipt.specs.Judgements.{afters, judged_in}
use Rattle.mx_receipt.specs.Receipt.{states_at}
use Rattle.mx_receipt.proofs.CoverLemmas.{in-all}
use Rattle.mx_receipt.proofs.HeldLemmas.{none-added}
use Rattle.mx_receipt.proofs.receiving.state_before.Goals as goal

pub returns-then-eq-clause-resolved : goal.returns-then-eq-clause-resolved
returns-then-eq-clause-resolved c =
    let rising_are : c.in_ok-prev_events.prev_events.items ≡ events_where c.args.graph.now (is_in c.args.prev_events.now) =
    rising-is c.args.graph.now c.in_ok-prev_events.prev_events.items (is_in c.args.prev_events.now) c.in_ok-prev_events.ensures.rises
    (λ p e. in-all (λ q. q < length c.args.graph.now) c.args.prev_events.now p c.requires.prev (sym (c.in_ok-prev_events.ensures.same p) ∙ e)) c.in_ok-prev_events.ensures.same in
    let same : c.in_ok-prev_events.prev_events.items ≡ c.args.latest.now.extremities.now =
    sym c.as_slice.ensures.value ∙ (slice_eq-Decides Decides-eqb c.as_slice.result.now c.args.latest.now.extremities.now true (sym c.if-eq.true ∙ c.eq.ensures)).0 refl in
    c.requires.current ∙ ap (λ xs. resolve_in c.args.graph.now (states_at (afters (judged_in c.args.states.now c.args.judgements.now)) xs)) (sym same ∙ rising_are)

pub returns-then-eq-clause-added : goal.returns-then-eq-clause-added
returns-then-eq-clause-added c = none-added c.args.graph.now c.args.states.now

pub resolved_after-requires-clause-events : goal.resolved_after-requires-clause-events
resolved_after-requires-clause-events c =
    subst (All (λ p. p < length c.args.judgements.now)) (sym c.deref.ensures.value)
    (all-in (λ p. p < length c.args.judgements.now) c.in_ok-prev_events.prev_events.items
    (λ y e. subst (λ n. y < n) c.requires.rows (in-all (λ p. p < length c.args.graph.now) c.args.prev_events.now y c.requires.prev (sym (c.in_ok-prev_events.ensures.same y) ∙ e))))

pub returns-clause-resolved : goal.returns-clause-resolved
returns-clause-resolved c =
    c.in_ok-before.ensures.resolved
    ∙ ap (λ xs. resolve_in c.args.graph.now (states_at (afters (judged_in c.args.states.now c.args.judgements.now)) xs))
    (c.deref.ensures.value ∙ rising-is c.args.graph.now c.in_ok-prev_events.prev_events.items (is_in c.args.prev_events.now) c.in_ok-prev_events.ensures.rises
    (λ p e. in-all (λ q. q < length c.args.graph.now) c.args.prev_events.now p c.requires.prev (sym (c.in_ok-prev_events.ensures.same p) ∙ e)) c.in_ok-prev_events.ensures.same)
