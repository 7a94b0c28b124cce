use Rattle.std.proofs.Common.{rules, ◌≡◌, All, subst, ◌∙◌}
use Rattle.mx_orders.specs.Mainline.{mainline}
use Rattle.mx_orders.specs.MainlineWalk.{whole}
use Rattle.mx_orders.specs.Places.{IsPositioned}
use Rattle.mx_orders.proofs.PlaceLemmas.{positioned-alike}
use Rattle.mx_orders.proofs.mainline_ordering.positions_of.Goals as goal

pub returns-clause-alike : goal.returns-clause-alike
returns-clause-alike c =
    let rows = c.args.graph.now in
    let positions = c.in_ok-positions.positions.items in
    let at_first : whole rows c.new-walk.result ≡ mainline rows c.args.power = search rules in
    positioned-alike rows (mainline rows c.args.power) positions
    (subst (λ line. All (IsPositioned rows line) positions) (c.in_ok-tied.ensures.whole ∙ at_first) c.in_ok-positions.ensures.positioned)
