use Rattle.std.proofs.Common.{◌∙◌, Some, Err, ap}
use Rattle.mx_pdu.specs.Event.{room_of}
use Rattle.mx_shard.specs.LoneRoom.{to_offer}
use Rattle.mx_world.specs.Replies.{outcome_told}
use Rattle.mx_world.specs.Worlds.{records_of, shard_journals}
use Rattle.mx_world.proofs.RoomLemmas.{outcome-answered}
use Rattle.mx_world.proofs.RefusalLemmas.{is-storage, on_err}
use Rattle.mx_world.proofs.CrashLemmas.{shards-refused}
use Rattle.mx_world.proofs.rooms.offer_in.Goals as goal

pub returns-clause-reply : goal.returns-clause-reply
returns-clause-reply g c =
    c.outcome_of.ensures ∙ ap outcome_told c.in_ok-answer.ensures.reply ∙ outcome-answered (records_of (shard_journals c.args.shards.now) (room_of c.args.offered.now.pdu)) c.args.origin.now c.args.offered.now

pub returns-in_err-answer-clause-err : goal.returns-in_err-answer-clause-err
returns-in_err-answer-clause-err g c = on_err c.from_residual.result c.in_err-answer.ensures.err

pub returns-in_err-answer-clause-storage : goal.returns-in_err-answer-clause-storage
returns-in_err-answer-clause-storage g c = λ is. c.in_err-answer.ensures.storage (ap (λ e. Err e) (is-storage c.from_residual.result c.in_err-answer.field-0.0 c.from_residual.ensures.1 is))

pub returns-in_err-answer-clause-crash : goal.returns-in_err-answer-clause-crash
returns-in_err-answer-clause-crash g c =
    shards-refused g.K.Keeper.is_honest g.K.Keeper.may_leave c.from_residual.result c.in_err-answer.field-0.0 (Some (to_offer c.args.origin.now c.args.offered.now)) c.args.shards.now c.send_in.new.shards
    c.from_residual.ensures.1 c.in_err-answer.ensures.crash
