use Rattle.std.proofs.Common.{sym, subst}
use Rattle.mx_receipt.specs.Receipt.{rows_of}
use Rattle.mx_room.specs.HistoryWalks.{AreRows}
use Rattle.mx_room.proofs.queries.history_walks.deepest_behind.Goals as goal
use Rattle.mx_room.proofs.queries.history_walks.deepest_behind.Goals.{else-loop-test, then-loop-test+then-are_enough}

pub deep_answers-requires : goal.deep_answers-requires
deep_answers-requires c =
    let rows = rows_of c.args.timeline.now.kept in
    elim c.loop-test.branch [
      | else-loop-test w ↦ subst (AreRows rows) (sym w.walk-is) c.loop.invariant.rows
      | then-loop-test+then-are_enough w ↦
          subst (AreRows rows) (sym w.walk-is)
          (record { ahead = c.loop.invariant.rows.ahead; known = c.loop.invariant.rows.known; done = c.loop.invariant.rows.done })
    ]
