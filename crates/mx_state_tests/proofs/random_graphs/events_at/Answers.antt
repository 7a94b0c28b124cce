use Rattle.std.proofs.Common.{length, sym, ap, ◌∙◌}
use Rattle.std.specs.Result.{is_ok}
use Rattle.mx_graph.specs.Record.{is_in}
use Rattle.mx_orders.proofs.RankLemmas.{one_more_named}
use Rattle.mx_state_tests.proofs.random_graphs.events_at.Goals as goal

pub loop-place-preserved : goal.loop-place-preserved
loop-place-preserved c =
    let r = one_more_named (is_ok c.push.result) (length c.args.graph.now) c.in_ok-event.event c.loop-place.found.items c.push.new.self.items c.push.ensures.items c.loop-place.invariant.known c.loop-place.invariant.distinct c.in_ok-event.ensures
    (sym (ap (λ xs. is_in xs c.in_ok-event.event) c.deref.ensures.value) ∙ sym c.stands_in.ensures ∙ c.if-stands_in.false) in
    record { known = r.0; distinct = r.1 }
