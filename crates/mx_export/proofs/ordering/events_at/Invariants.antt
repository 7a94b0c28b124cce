use Rattle.std.proofs.Common.{◌≡◌, map, take}
use Rattle.mx_export.specs.Collecting.{event_at}
use Rattle.mx_export.proofs.ordering.events_at.Given as goal

abbrev pub invariant-loop-place : goal.invariant-loop-place
invariant-loop-place l = l.found.items ≡ map (event_at l.events) (take l.place-index l.places)
