use Rattle.std.proofs.Common.{◌≡◌, All, map, take}
use Rattle.mx_orders.specs.MainlineWalk.{IsWalk, whole}
use Rattle.mx_orders.specs.Places.{IsPositioned}
use Rattle.mx_orders.proofs.mainline_ordering.exact_positions.Given as goal

-- the events so far, each with its position
abbrev pub invariant-loop-event : goal.invariant-loop-event
invariant-loop-event l = record {
  walk : IsWalk l.walk;
  same : whole l.graph l.walk ≡ whole l.graph l.initial.walk;
  numbers : map (λ positioned. positioned.number) l.positions.items ≡ take l.event-index l.events;
  positioned : All (IsPositioned l.graph (whole l.graph l.initial.walk)) l.positions.items;
}
