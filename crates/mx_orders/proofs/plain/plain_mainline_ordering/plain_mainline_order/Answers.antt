use Rattle.std.proofs.Common.{◌<◌, All, map, length, ap, sym, subst, ◌∙◌}
use Rattle.mx_orders.specs.Mainline.{mainline_order}
use Rattle.mx_orders.specs.Places.{CompareAlike, event_position}
use Rattle.mx_orders.proofs.PlaceLemmas.{numbers-known, positioned-alike}
use Rattle.mx_orders.proofs.plain.plain_mainline_ordering.plain_mainline_order.Goals as goal

pub in_order-requires : goal.in_order-requires
in_order-requires c =
    subst (All (λ p. p.number < length c.args.graph.now)) (sym c.deref.ensures.value)
    (numbers-known c.args.graph.now c.in_ok-positions.positions.items c.args.events.now c.in_ok-positions.ensures.numbers c.requires)

pub returns : goal.returns
returns c =
    c.in_ok-order.ensures (c.in_ok-mainline.mainline) (subst (λ ps. CompareAlike c.args.graph.now (c.in_ok-mainline.mainline) (map event_position ps)) (sym c.deref.ensures.value) (positioned-alike c.args.graph.now (c.in_ok-mainline.mainline) c.in_ok-positions.positions.items c.in_ok-positions.ensures.positioned))
    ∙ ap (λ ps. mainline_order c.args.graph.now (c.in_ok-mainline.mainline) (map (λ p. p.number) ps)) c.deref.ensures.value
    ∙ ap (mainline_order c.args.graph.now (c.in_ok-mainline.mainline)) c.in_ok-positions.ensures.numbers
    ∙ ap (λ line. mainline_order c.args.graph.now line c.args.events.now) c.in_ok-mainline.ensures
