use Rattle.std.proofs.Common.{◌≡◌, ◌<◌, ◌++◌, flat_map, length, drop}
use Rattle.std.specs.List.{All}
use Rattle.mx_graph.specs.Record.{event, prev_events}
use Rattle.mx_receipt.specs.Receipt.{rows_of}
use Rattle.mx_room.proofs.queries.history_queries.followed.Given as goal

-- the events so far, with what the events that are left follow, are all
abbrev pub invariant-loop-event : goal.invariant-loop-event
invariant-loop-event l = record {
  so_far : l.prev.items ++ flat_map (λ p. prev_events (rows_of l.timeline.kept) (event (rows_of l.timeline.kept) p)) (drop l.event-index l.events)
      ≡ flat_map (λ p. prev_events (rows_of l.timeline.kept) (event (rows_of l.timeline.kept) p)) l.events;
  below : All (λ event. event < length l.timeline.kept) l.prev.items;
}
