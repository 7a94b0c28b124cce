use Rattle.std.proofs.Common.{length}
use Rattle.mx_export.specs.RoomEvents.{cites}
use Rattle.mx_export.proofs.IdLaws.{room-ids-differ}
use Rattle.mx_export.proofs.OrderLaws.{whole}
use Rattle.mx_export.proofs.laws.each_event_has_one_place.Goals as goal

pub returns-clause-places : goal.returns-clause-places
returns-clause-places c es = whole cites (length es) es

pub returns-clause-ids : goal.returns-clause-ids
returns-clause-ids c = room-ids-differ
