use Rattle.std.proofs.Common.{◌<◌, sym, ap, subst, ◌∙◌}
use Rattle.std.specs.Prelude.{Some}
use Rattle.mx_room.specs.RoomView.{RoomView}
use Rattle.mx_shard.proofs.RoomLemmas.{room_found, room_missing}
use Rattle.mx_shard.proofs.hosting.taken_room.Goals as goal

pub swap_remove-requires : goal.swap_remove-requires
swap_remove-requires c =
    subst (λ n. c.in-Some.number.now < n) (sym c.args.rooms.ok.0)
    (room_found c.args.numbers.now c.args.rooms.items c.args.id.now c.in-Some.number.now c.requires (sym c.in-Some.ensures.value)).within

pub returns-in-Some : goal.returns-in-Some
returns-in-Some c =
    ap (λ (room : RoomView). Some room) c.swap_remove.ensures.value
    ∙ sym ((room_found c.args.numbers.now c.args.rooms.items c.args.id.now c.in-Some.number.now c.requires (sym c.in-Some.ensures.value)).found c.swap_remove.result)

pub returns : goal.returns
returns c = sym (room_missing c.args.numbers.now c.args.rooms.items c.args.id.now c.requires (sym c.in-None.ensures.value))
