use Rattle.mx_receipt.specs.Receipt.{rows_of}
use Rattle.mx_room.proofs.HistoryFoundLemmas.{step-leaves}
use Rattle.mx_room.proofs.queries.history_walks.leave_out.Goals as goal

pub returns-clause-walks : goal.returns-clause-walks
returns-clause-walks c starts known walk =
    step-leaves (rows_of c.args.timeline.now.kept) c.timeline_depths_hold.ensures.sound c.timeline_depths_hold.ensures.bounds starts known
    c.args.walk.now.ahead c.args.walk.now.known c.args.walk.now.done.items c.args.walk.now.done_known.items c.args.row.now
    (c.requires.rows.known c.args.row.now c.requires.known).0 c.requires.known c.requires.last c.requires.last_known
    c.leave.new.waiting c.put_known.new.ahead c.put_known.new.known c.prev_events.result.now c.push.new.self.items c.leave.ensures.waits
    c.prev_events.ensures.cited c.in_ok-put_known.ensures.ahead c.in_ok-put_known.ensures.known c.in_ok-push.ensures.items walk
