use Rattle.std.proofs.Common.{ℕ, ◌<◌, get_or}
use Rattle.std.specs.Prelude.{IsTrue}
use Rattle.mx_receipt.specs.Receipt.{rows_of}
use Rattle.mx_room.specs.EventOrders.{is_as_deep}
use Rattle.mx_room.proofs.queries.event_orders.least_depth.Given as goal

-- the events so far are so deep
abbrev pub invariant-loop-event : goal.invariant-loop-event
invariant-loop-event l = (k d : ℕ) → k < l.event-index → IsTrue (is_as_deep (rows_of l.timeline.kept) l.least (get_or l.events k d))
