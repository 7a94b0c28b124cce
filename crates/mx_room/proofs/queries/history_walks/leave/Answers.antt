use Rattle.mx_receipt.specs.Receipt.{rows_of}
use Rattle.mx_room.proofs.HistoryOrderLemmas.{left-bounded, left-waits}
use Rattle.mx_room.proofs.queries.history_walks.leave.Goals as goal

pub returns-clause-waits : goal.returns-clause-waits
returns-clause-waits c =
    left-waits (rows_of c.args.timeline.now.kept) c.args.waiting.now c.remove.new.self c.bounded.result c.args.number c.bounded.ensures c.remove.ensures.updates.0

pub returns-clause-rows : goal.returns-clause-rows
returns-clause-rows c =
    left-bounded (rows_of c.args.timeline.now.kept) c.args.waiting.now c.remove.new.self c.bounded.result c.args.number c.bounded.ensures c.remove.ensures.updates.0
