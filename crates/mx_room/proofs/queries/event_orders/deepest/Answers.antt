use Rattle.std.proofs.Common.{◌≡◌, ◌-◌, All, IsTrue, drop, length, take, ap, subst, ◌∙◌, arith}
use Rattle.std.proofs.lemmas.List.{length-drop, take_all}
use Rattle.mx_orders.specs.Mainline.{sorted}
use Rattle.mx_receipt.specs.Receipt.{rows_of}
use Rattle.mx_room.specs.EventOrders.{is_as_deep}
use Rattle.mx_room.specs.Queries.{depth_falling}
use Rattle.mx_room.proofs.DeepestLemmas.{deepest-is, few-taken}
use Rattle.mx_room.proofs.queries.event_orders.deepest.Goals as goal

pub returns-then-events-most-clause-order : goal.returns-then-events-most-clause-order
returns-then-events-most-clause-order c =
    c.in_ok-numbers.ensures.order ∙ few-taken (rows_of c.args.timeline.now.kept) c.args.most c.args.events.now c.if-events-most.true

pub returns-clause-order : goal.returns-clause-order
returns-clause-order c =
    let rows = rows_of c.args.timeline.now.kept in
    let events = c.args.events.now in
    let first = length events - c.args.most in
    let all : take (length events - first) (drop first events) ≡ drop first events = take_all (length events - first) (drop first events) (omega (arith, length-drop first events)) in
    c.truncate.ensures.items
    ∙ ap (take c.args.most) (c.in_ok-numbers-2.ensures.order ∙ ap (sorted (depth_falling rows)) (c.deref.ensures.value ∙ c.in_ok-deep.ensures.deep))
    ∙ deepest-is rows c.least_depth-depth.result c.args.most events first (omega (arith, c.if-events-most.false))
    (subst (All (λ event. IsTrue (is_as_deep rows c.least_depth-depth.result event))) all c.least_depth-depth.ensures)
