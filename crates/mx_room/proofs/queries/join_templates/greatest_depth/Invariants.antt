use Rattle.std.proofs.Common.{◌≡◌, take}
use Rattle.mx_receipt.specs.Receipt.{rows_of}
use Rattle.mx_graph.specs.Depths as depths
use Rattle.mx_room.proofs.queries.join_templates.greatest_depth.Given as goal

-- the greatest depth so far
abbrev pub invariant-loop-event : goal.invariant-loop-event
invariant-loop-event l = l.greatest ≡ depths.greatest_depth (rows_of l.timeline.kept) (take l.event-index l.events)
