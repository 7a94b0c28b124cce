use Rattle.std.proofs.Common.{length, refl, sym, ap, ◌∙◌, take}
use Rattle.mx_graph.specs.Graph.{ancestors}
use Rattle.mx_orders.specs.Mainline.{sorted}
use Rattle.mx_receipt.specs.Receipt.{rows_of}
use Rattle.mx_room.specs.Queries.{depth_falling}
use Rattle.mx_room.proofs.AnswerLemmas.{backfill-is, marked-after_two}
use Rattle.mx_room.proofs.queries.plain_history.backfill.Goals as goal

pub returns-clause-events : goal.returns-clause-events
returns-clause-events c =
    let kept = c.args.timeline.now.kept in
    let found = c.deref-4.result.now in
    let order = sorted (depth_falling (rows_of kept)) in
    c.in_ok-events.ensures.order ∙ (λ i. take (c.min-most.ensures i) (order found))
    ∙ backfill-is kept c.args.from.now c.args.limit c.mark-2.new.self c.deref-2.result.now c.deref-3.result.now found (order found)
    (c.deref-2.ensures.value ∙ c.in_ok-starts.ensures.numbers)
    (c.deref-3.ensures.value ∙ c.in_ok-before.ensures.set ∙ ap (ancestors (rows_of kept)) (c.deref.ensures.value ∙ sym c.deref-2.ensures.value))
    (marked-after_two (length kept) c.in_ok-marks.marks c.mark.new.self c.mark-2.new.self c.deref-2.result.now c.deref-3.result.now
    (c.in_ok-marks.ensures.len ∙ c.len.ensures) c.mark.ensures.len c.in_ok-marks.ensures.none c.mark.ensures.marked c.mark-2.ensures.marked)
    (c.deref-4.ensures.value ∙ c.in_ok-found.ensures.events)
    refl
