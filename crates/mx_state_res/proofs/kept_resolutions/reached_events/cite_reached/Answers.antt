use Rattle.std.proofs.Common.{◌≡◌, ◌<◌, ℕ, length, subst, sym, ap, ◌∙◌, arith}
use Rattle.std.specs.Prelude.{IfSome}
use Rattle.std.proofs.lemmas.List.{take_all}
use Rattle.std.proofs.lemmas.List.Elements.{All-more}
use Rattle.mx_pdu.specs.StateKeys.{Key}
use Rattle.mx_graph.specs.StateMap.{entry, key_cmp}
use Rattle.mx_state_res.specs.KeptResolutions.{AllCiteReached, CitesReached, events_checked}
use Rattle.mx_states.proofs.KnownLemmas.{find-known}
use Rattle.mx_state_res.proofs.kept_resolutions.reached_events.cite_reached.Goals as goal

pub cites_reached-requires-clause-event : goal.cites_reached-requires-clause-event
cites_reached-requires-clause-event c =
    subst (λ o. IfSome o (λ event. event < length c.args.graph.now)) (sym c.get-event.ensures) (find-known key_cmp (λ event. event < length c.args.graph.now) (c.kind.result.now, c.state_key.result.now) c.args.state.now c.requires.state)

pub loop-entry-preserved : goal.loop-entry-preserved
loop-entry-preserved c =
    let reached : ℕ → Type 0 = CitesReached c.args.graph.now (events_checked c.args.order.now) c.args.other.now in
    let P : Key × ℕ → Type 0 = λ e. IfSome (entry c.args.state.now e.0) reached in
    let key_is : (c.kind.result.now, c.state_key.result.now) ≡ c.entry-item.result.0 = λ i. (c.kind.ensures i, c.state_key.ensures i) in
    All-more P c.args.entries.now c.loop-entry.entry-index c.entry-item.result (omega arith) c.loop-entry.invariant
    (subst P c.entry-item.is (subst (λ o. IfSome o reached) (c.get-event.ensures ∙ ap (entry c.args.state.now) key_is) (c.cites_reached.ensures c.if-not-cites_reached.false)))

pub returns : goal.returns
returns c =
    λ yes. subst (AllCiteReached c.args.graph.now (events_checked c.args.order.now) c.args.state.now c.args.other.now) (take_all c.loop-entry.entry-index c.args.entries.now (omega arith)) c.loop-entry.invariant
