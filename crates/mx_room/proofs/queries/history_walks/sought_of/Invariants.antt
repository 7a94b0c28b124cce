use Rattle.std.proofs.Common.{◌≡◌, ◌<◌, ◌++◌, ◌&&◌, filter, drop, length}
use Rattle.std.specs.List.{All}
use Rattle.mx_receipt.specs.Receipt.{rows_of}
use Rattle.mx_room.specs.EventOrders.{is_as_deep}
use Rattle.mx_room.specs.HistoryWalks.{is_sought}
use Rattle.mx_room.proofs.queries.history_walks.sought_of.Given as goal

-- the events so far, with those that are left, are all
abbrev pub invariant-loop-event : goal.invariant-loop-event
invariant-loop-event l = record {
  so_far : l.found.items ++ filter (λ p. is_sought (rows_of l.timeline.kept) l.sought p && is_as_deep (rows_of l.timeline.kept) l.depth p) (drop l.event-index l.events)
      ≡ filter (λ p. is_sought (rows_of l.timeline.kept) l.sought p && is_as_deep (rows_of l.timeline.kept) l.depth p) l.events;
  below : All (λ event. event < length l.timeline.kept) l.found.items;
}
