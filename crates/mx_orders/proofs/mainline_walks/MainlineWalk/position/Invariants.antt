use Rattle.std.proofs.Common.{◌≡◌}
use Rattle.mx_orders.specs.Mainline.{mainline_position}
use Rattle.mx_orders.specs.MainlineWalk.{IsWalk, whole}
use Rattle.mx_orders.proofs.mainline_walks.MainlineWalk.position.Given as goal

abbrev pub invariant-loop-power : goal.invariant-loop-power
invariant-loop-power l = record {
  walk : IsWalk l.self;
  same : whole l.graph l.self ≡ whole l.graph l.initial.self;
  position : mainline_position l.graph (whole l.graph l.initial.self) l.above ≡ mainline_position l.graph (whole l.graph l.initial.self) l.fn.event;
}

abbrev pub decreases-loop-power : goal.decreases-loop-power
decreases-loop-power l = l.above
