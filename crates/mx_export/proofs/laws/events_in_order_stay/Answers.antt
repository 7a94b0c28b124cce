use Rattle.mx_export.specs.RoomEvents.{cites}
use Rattle.mx_export.proofs.OrderLaws.{stays}
use Rattle.mx_export.proofs.laws.events_in_order_stay.Goals as goal

pub returns : goal.returns
returns c es h = stays cites es h
