use Rattle.std.proofs.Common.{◌∙◌, sym}
use Rattle.mx_room.proofs.RoomLemmas.{at-error}
use Rattle.mx_shard.proofs.RoomLemmas.{has_shown, shown_none, shown_some}
use Rattle.mx_shard.proofs.asking.first_shown.Goals as goal

pub returns-then-is_ok-clause-reply : goal.returns-then-is_ok-clause-reply
returns-then-is_ok-clause-reply c =
    shown_some c.args.rooms.now c.args.origin.now c.args.now c.args.query.now c.loop-room.room-index c.room-item.result c.requires.distinct c.requires.ready c.loop-room-test.true c.room-item.is
    c.in_ok-reply.reply c.in_ok-reply.ensures.reply (sym c.is_ok.ensures.value ∙ c.if-is_ok.true)

pub returns-clause-reply : goal.returns-clause-reply
returns-clause-reply c =
    shown_none c.args.rooms.now c.args.origin.now c.args.now c.args.query.now c.loop-room.room-index c.requires.alone c.loop-room-test.false c.loop-room.invariant

pub returns-in_err-reply-clause-memory : goal.returns-in_err-reply-clause-memory
returns-in_err-reply-clause-memory c =
    at-error c.from_residual.result
    (has_shown c.args.rooms.now c.args.origin.now c.args.now c.args.query.now c.loop-room.room-index c.room-item.result c.requires.distinct c.requires.ready c.loop-room-test.true c.room-item.is c.in_err-reply.ensures.memory)
