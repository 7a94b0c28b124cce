use Rattle.std.proofs.Common.{◌≡◌, ◌++◌, drop, filter_map}
use Rattle.mx_access.specs.Access.{shown}
use Rattle.mx_room.proofs.queries.served_events.all_shown.Given as goal

-- what is given so far, with what the events that are left give, is all
abbrev pub invariant-loop-event : goal.invariant-loop-event
invariant-loop-event l =
    l.given.items ++ filter_map (shown l.viewer.kept l.viewer.server) (drop l.event-index l.events)
    ≡ filter_map (shown l.viewer.kept l.viewer.server) l.events
