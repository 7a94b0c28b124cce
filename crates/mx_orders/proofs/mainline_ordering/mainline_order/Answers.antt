use Rattle.std.proofs.Common.{◌<◌, All, map, length, ap, sym, subst, ◌∙◌}
use Rattle.mx_orders.specs.Mainline.{mainline, mainline_order}
use Rattle.mx_orders.specs.Places.{CompareAlike, event_position}
use Rattle.mx_orders.proofs.PlaceLemmas.{numbers-known}
use Rattle.mx_orders.proofs.mainline_ordering.mainline_order.Goals as goal

pub in_order-requires : goal.in_order-requires
in_order-requires c =
    subst (All (λ p. p.number < length c.args.graph.now)) (sym c.deref.ensures.value)
    (numbers-known c.args.graph.now c.in_ok-positions.positions.items c.args.events.now c.in_ok-positions.ensures.numbers c.requires)

pub returns : goal.returns
returns c =
    let line = mainline c.args.graph.now c.args.power in
    c.in_ok-order.ensures line (subst (λ ps. CompareAlike c.args.graph.now line (map event_position ps)) (sym c.deref.ensures.value) c.in_ok-positions.ensures.alike)
    ∙ ap (λ ps. mainline_order c.args.graph.now line (map (λ p. p.number) ps)) c.deref.ensures.value
    ∙ ap (mainline_order c.args.graph.now line) c.in_ok-positions.ensures.numbers
