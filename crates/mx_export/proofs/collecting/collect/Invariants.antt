use Rattle.std.proofs.Common.{◌≡◌, drop}
use Rattle.std.specs.Prelude.{filter}
use Rattle.std.specs.List.{fold}
use Rattle.mx_export.specs.Collecting.{IsIndexed}
use Rattle.mx_export.specs.RoomEvents.{is_in_room, room_events, with_event}
use Rattle.mx_export.proofs.collecting.collect.Given as goal

abbrev pub invariant-loop-event : goal.invariant-loop-event
invariant-loop-event l = record {
  indexed : IsIndexed l.collected;
  so_far : fold with_event l.collected.events.items (filter (is_in_room l.room) (drop l.event-index l.events)) ≡ room_events l.room l.create l.events;
}
