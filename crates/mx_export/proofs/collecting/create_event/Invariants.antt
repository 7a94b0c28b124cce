use Rattle.std.proofs.Common.{◌≡◌, drop}
use Rattle.mx_export.specs.RoomEvents.{create_of}
use Rattle.mx_export.proofs.collecting.create_event.Given as goal

abbrev pub invariant-loop-event : goal.invariant-loop-event
invariant-loop-event l = create_of l.room (drop l.event-index l.events) ≡ create_of l.room l.events
