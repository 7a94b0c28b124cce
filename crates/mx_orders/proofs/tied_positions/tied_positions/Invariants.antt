use Rattle.std.proofs.Common.{◌≡◌, All, map, take}
use Rattle.mx_orders.specs.MainlineWalk.{IsWalk, whole}
use Rattle.mx_orders.specs.Places.{event_position}
use Rattle.mx_orders.specs.Ties.{HasPlace}
use Rattle.mx_orders.proofs.tied_positions.tied_positions.Given as goal

-- the events so far, each with its place
abbrev pub invariant-loop-event : goal.invariant-loop-event
invariant-loop-event l = record {
  walk : IsWalk l.walk;
  same : whole l.graph l.walk ≡ whole l.graph l.initial.walk;
  numbers : map (λ positioned. positioned.number) l.positions.items ≡ take l.event-index l.events;
  placed : All (λ positioned. HasPlace l.graph (whole l.graph l.initial.walk) l.oldest (event_position positioned)) l.positions.items;
}
