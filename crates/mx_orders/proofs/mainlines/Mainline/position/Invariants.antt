use Rattle.std.proofs.Common.{◌≡◌}
use Rattle.mx_orders.specs.Mainline.{mainline_position}
use Rattle.mx_orders.proofs.mainlines.Mainline.position.Given as goal

abbrev pub invariant-loop-power : goal.invariant-loop-power
invariant-loop-power l = mainline_position l.graph l.self l.above ≡ mainline_position l.graph l.fn.self l.fn.event

abbrev pub decreases-loop-power : goal.decreases-loop-power
decreases-loop-power l = l.above
