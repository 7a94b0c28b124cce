use Rattle.std.proofs.Common.{◌≡◌, ◌++◌, drop}
use Rattle.mx_receipt.specs.Receipt.{rows_of}
use Rattle.mx_room.specs.Queries as definition
use Rattle.mx_room.proofs.queries.served_events.ids_of.Given as goal

-- the ids so far, with those of the events that are left, are all
abbrev pub invariant-loop-event : goal.invariant-loop-event
invariant-loop-event l =
    l.ids.items ++ definition.ids_of (rows_of l.timeline.kept) (drop l.event-index l.events)
    ≡ definition.ids_of (rows_of l.timeline.kept) l.events
