use Rattle.std.proofs.Common.{◌≡◌, ◌<◌, ℕ, length, subst, sym, true, arith}
use Rattle.std.proofs.lemmas.List.{take_all}
use Rattle.std.proofs.lemmas.List.Elements.{All-more}
use Rattle.std.specs.List.{All}
use Rattle.mx_state_res.specs.KeptResolutions.{events_checked}
use Rattle.mx_state_res.specs.LaterResolution.{is_reached}
use Rattle.mx_state_res.proofs.kept_resolutions.reached_events.reaches_each.Goals as goal

pub loop-event-preserved : goal.loop-event-preserved
loop-event-preserved c =
    let P : ℕ → Type 0 = λ event. is_reached c.args.graph.now (events_checked c.args.order.now) c.args.other.now event ≡ true in
    All-more P c.args.events.now c.loop-event.event-index c.event-item.result (omega arith) c.loop-event.invariant (subst P c.event-item.is (c.reaches.ensures c.if-not-reaches.false))

pub returns : goal.returns
returns c =
    λ yes. subst (All (λ (event : ℕ). is_reached c.args.graph.now (events_checked c.args.order.now) c.args.other.now event ≡ true)) (take_all c.loop-event.event-index c.args.events.now (omega arith)) c.loop-event.invariant
