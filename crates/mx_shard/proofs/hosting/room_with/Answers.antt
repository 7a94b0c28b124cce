use Rattle.std.proofs.Common.{sym}
use Rattle.mx_shard.proofs.RoomLemmas.{room_got, room_missing}
use Rattle.mx_shard.proofs.hosting.room_with.Goals as goal

pub returns-in-Some : goal.returns-in-Some
returns-in-Some c =
    room_got c.get-in-Some.result c.args.numbers.now c.args.rooms.now c.args.id.now c.in-Some.number.now c.requires (sym c.in-Some.ensures.value) c.get-in-Some.ensures.lookup.0 c.get-in-Some.ensures.lookup.1

pub returns-in-None : goal.returns-in-None
returns-in-None c = sym (room_missing c.args.numbers.now c.args.rooms.now c.args.id.now c.requires (sym c.in-None.ensures.value))
