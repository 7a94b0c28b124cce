use Rattle.mx_receipt.specs.Receipt.{rows_of}
use Rattle.mx_room.specs.HistoryWalks.{waits}
use Rattle.mx_room.proofs.HistoryOrderLemmas.{ahead-left, known-added}
use Rattle.mx_room.proofs.queries.history_walks.put_known.Goals as goal

pub loop-number-preserved : goal.loop-number-preserved
loop-number-preserved c =
    let rows = rows_of c.args.timeline.now.kept in
    record {
      ahead = ahead-left (waits rows c.args.ahead.now) (waits rows c.loop-number.ahead) (waits rows c.leave.new.waiting) c.args.numbers.now c.loop-number.number-index c.number-item.result c.number-item.is
          c.loop-number-test.true c.loop-number.invariant.ahead c.leave.ensures.waits;
      known = known-added (waits rows c.args.known.now) (waits rows c.loop-number.known) (waits rows c.wait.new.waiting) c.args.numbers.now c.loop-number.number-index c.number-item.result c.number-item.is
          c.loop-number-test.true c.loop-number.invariant.known c.in_ok-wait.ensures.waits;
      ahead_rows = λ h. c.leave.ensures.rows (c.loop-number.invariant.ahead_rows h);
      known_rows = λ h. c.in_ok-wait.ensures.rows (c.loop-number.invariant.known_rows h);
    }
