use Rattle.std.proofs.Common.{◌==◌, ◌++◌, ◌∷◌, [], not, filter, take, refl, sym, ap, subst, ◌∙◌}
use Rattle.std.proofs.lemmas.List.{take_more}
use Rattle.mx_graph.specs.Edges.{Rises}
use Rattle.mx_graph.specs.Record.{is_in}
use Rattle.mx_state_res.proofs.SetLemmas.{rises-filter}
use Rattle.mx_receipt.proofs.RemovalLemmas.{kept-all, one-fewer}
use Rattle.mx_receipt.proofs.covering.remove_events.Goals as goal

pub loop-event-init : goal.loop-event-init
loop-event-init c = sym (kept-all (λ p. not (is_in [] p)) c.args.events.now.items (λ p e. refl))

pub remove_event-requires : goal.remove_event-requires
remove_event-requires c =
    subst Rises (sym c.loop-event.invariant) (rises-filter (λ p. not (is_in (take c.loop-event.event-index c.args.covered.now) p)) c.args.events.now.items c.requires)

pub loop-event-preserved : goal.loop-event-preserved
loop-event-preserved c =
    c.remove_event.ensures ∙ ap (filter (λ p. not (c.event-item.result == p))) c.loop-event.invariant
    ∙ one-fewer (take c.loop-event.event-index c.args.covered.now) c.args.events.now.items c.event-item.result
    ∙ ap (λ xs. filter (λ p. not (is_in xs p)) c.args.events.now.items)
    (ap (λ e. take c.loop-event.event-index c.args.covered.now ++ e ∷ []) c.event-item.is ∙ sym (take_more c.args.covered.now c.loop-event.event-index c.event-item.result c.loop-event-test.true))
