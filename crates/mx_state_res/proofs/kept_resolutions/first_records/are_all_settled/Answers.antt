use Rattle.std.proofs.Common.{◌≡◌, ℕ, true, ap, subst, sym, ◌∙◌, arith}
use Rattle.std.proofs.lemmas.List.{take_all}
use Rattle.std.proofs.lemmas.List.Elements.{All-more}
use Rattle.std.specs.List.{All}
use Rattle.mx_state_res.specs.KeptResolutions.{is_settled}
use Rattle.mx_states.specs.Numbered.{state_at}
use Rattle.mx_state_res.proofs.kept_resolutions.first_records.are_all_settled.Goals as goal

pub loop-event-preserved : goal.loop-event-preserved
loop-event-preserved c =
    All-more (λ (event : ℕ). is_settled c.args.graph.now c.args.differing.now (state_at c.args.states.now c.args.base) event ≡ true) c.args.events.now c.loop-event.event-index c.event-item.result (omega arith) c.loop-event.invariant
    (ap (is_settled c.args.graph.now c.args.differing.now (state_at c.args.states.now c.args.base)) (sym c.event-item.is) ∙ sym c.is_event_settled.ensures ∙ c.if-not-is_event_settled.false)

pub returns : goal.returns
returns c =
    λ yes. subst (All (λ (event : ℕ). is_settled c.args.graph.now c.args.differing.now (state_at c.args.states.now c.args.base) event ≡ true)) (take_all c.loop-event.event-index c.args.events.now (omega arith)) c.loop-event.invariant
