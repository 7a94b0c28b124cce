use Rattle.std.proofs.Common.{length}
use Rattle.mx_export.specs.RoomEvents.{cites}
use Rattle.mx_export.proofs.OrderLaws.{cited-first}
use Rattle.mx_export.proofs.laws.cited_events_come_first.Goals as goal

pub returns : goal.returns
returns c es = cited-first cites (length es) es
