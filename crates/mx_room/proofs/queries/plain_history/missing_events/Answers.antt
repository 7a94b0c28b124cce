use Rattle.std.proofs.Common.{ap, ◌∙◌, take}
use Rattle.mx_orders.specs.Mainline.{sorted}
use Rattle.mx_receipt.specs.Receipt.{rows_of}
use Rattle.mx_room.specs.Queries.{depth_falling, depth_rising}
use Rattle.mx_room.proofs.AnswerLemmas.{missing-is}
use Rattle.mx_room.proofs.queries.plain_history.missing_events.Goals as goal

pub returns-clause-events : goal.returns-clause-events
returns-clause-events c =
    let rows = rows_of c.args.timeline.now.kept in
    c.in_ok-events.ensures.order
    ∙ ap (sorted (depth_rising rows))
    (c.deref-2.ensures.value ∙ c.in_ok-deep.ensures.order
    ∙ λ i. take (c.min-most.ensures i) (sorted (depth_falling rows) ((c.deref.ensures.value ∙ c.in_ok-found.ensures.events) i)))
    ∙ missing-is c.args.timeline.now.kept c.args.earliest.now c.args.latest.now c.args.limit c.args.min_depth
