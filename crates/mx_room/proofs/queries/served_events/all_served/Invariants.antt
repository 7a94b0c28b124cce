use Rattle.std.proofs.Common.{◌≡◌, ◌++◌, drop, map}
use Rattle.mx_access.specs.Access.{served}
use Rattle.mx_room.proofs.queries.served_events.all_served.Given as goal

-- what is given so far, with what the events that are left give, is all
abbrev pub invariant-loop-event : goal.invariant-loop-event
invariant-loop-event l =
    l.given.items ++ map (served l.timeline.kept) (drop l.event-index l.events) ≡ map (served l.timeline.kept) l.events
