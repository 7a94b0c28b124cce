use Rattle.std.proofs.Common.{◌≤◌, length, arith}
use Rattle.mx_export.specs.RoomEvents.{cites}
use Rattle.mx_export.proofs.OrderLaws.{in-circles}
use Rattle.mx_export.proofs.laws.left_out_events_cite_in_circles.Goals as goal

pub returns : goal.returns
returns c es =
    let all : length es ≤ length es = omega arith in
    in-circles cites (length es) es all
