use Rattle.std.proofs.Common.{◌≡◌, ◌<◌, ◌++◌, filter, length, drop}
use Rattle.std.specs.List.{All}
use Rattle.mx_receipt.specs.Receipt.{rows_of}
use Rattle.mx_room.specs.EventOrders.{is_as_deep}
use Rattle.mx_room.proofs.queries.event_orders.as_deep.Given as goal

-- the events so far, with those that are left, are all
abbrev pub invariant-loop-event : goal.invariant-loop-event
invariant-loop-event l = record {
  so_far : l.deep.items ++ filter (is_as_deep (rows_of l.timeline.kept) l.depth) (drop l.event-index l.events) ≡ filter (is_as_deep (rows_of l.timeline.kept) l.depth) l.events;
  below : All (λ event. event < length l.timeline.kept) l.deep.items;
}
