use Rattle.std.proofs.Common.{◌∙◌, sym}
use Rattle.mx_shard.specs.LoneRoom.{to_ask}
use Rattle.mx_shard.specs.Journal.{record_of}
use Rattle.mx_world.proofs.RoomLemmas.{alone_shown, not_shown}
use Rattle.mx_world.proofs.rooms.ask_one.Goals as goal

pub returns-then-is_shown-clause-shown : goal.returns-then-is_shown-clause-shown
returns-then-is_shown-clause-shown g c = (
  sym c.is_shown.ensures ∙ c.if-is_shown.true,
  alone_shown (record_of c.args.shard.now.journal) c.args.origin.now c.args.now c.args.query.now c.in-Ok.answer c.requires c.in-Ok.ensures.reply,
)

pub returns-else-is_shown-clause-unshown : goal.returns-else-is_shown-clause-unshown
returns-else-is_shown-clause-unshown g c = λ _ _ room.
    not_shown (record_of c.args.shard.now.journal) (to_ask c.args.origin.now c.args.now c.args.query.now) c.in-Ok.answer (sym c.is_shown.ensures ∙ c.if-is_shown.false)
    (alone_shown (record_of c.args.shard.now.journal) c.args.origin.now c.args.now c.args.query.now c.in-Ok.answer c.requires c.in-Ok.ensures.reply) room
