use Rattle.std.proofs.Common.{◌∙◌, sym, ap}
use Rattle.std.specs.Prelude.{option_copied}
use Rattle.mx_room.proofs.RoomLemmas.{at-error}
use Rattle.mx_shard.specs.Told.{tells_shown}
use Rattle.mx_shard.specs.declared.answers.Answer.TheVariants.{ToAsked}
use Rattle.mx_shard.proofs.RoomLemmas.{named_asked}
use Rattle.mx_shard.proofs.asking.answer_of.Goals as goal

pub returns-clause-reply : goal.returns-clause-reply
returns-clause-reply c =
    ap ToAsked c.in_ok-reply.ensures.reply
    ∙ named_asked c.args.rooms.now c.args.id.now c.args.origin.now c.args.now c.args.query.now c.in-Some.room.now c.requires.ready (sym (ap option_copied c.in-Some.is) ∙ c.room_with.ensures)

pub returns-in_err-reply-clause-memory : goal.returns-in_err-reply-clause-memory
returns-in_err-reply-clause-memory c =
    at-error c.from_residual.result
    (ap tells_shown (sym (named_asked c.args.rooms.now c.args.id.now c.args.origin.now c.args.now c.args.query.now c.in-Some.room.now c.requires.ready (sym (ap option_copied c.in-Some.is) ∙ c.room_with.ensures)))
    ∙ c.in_err-reply.ensures.memory)
