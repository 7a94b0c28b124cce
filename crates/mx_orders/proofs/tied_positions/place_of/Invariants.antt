use Rattle.std.proofs.Common.{◌≡◌}
use Rattle.mx_orders.specs.Mainline.{mainline_position}
use Rattle.mx_orders.specs.MainlineWalk.{IsWalk, whole}
use Rattle.mx_orders.proofs.tied_positions.place_of.Given as goal

abbrev pub invariant-loop-power : goal.invariant-loop-power
invariant-loop-power l = record {
  walk : IsWalk l.walk;
  same : whole l.graph l.walk ≡ whole l.graph l.initial.walk;
  position : mainline_position l.graph (whole l.graph l.initial.walk) l.above ≡ mainline_position l.graph (whole l.graph l.initial.walk) l.fn.event;
}

abbrev pub decreases-loop-power : goal.decreases-loop-power
decreases-loop-power l = l.above
