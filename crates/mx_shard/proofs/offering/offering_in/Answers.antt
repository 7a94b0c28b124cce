use Rattle.std.proofs.Common.{◌≡◌, ◌∙◌, ◌<◌, length, Some, refl, sym, ap, arith}
use Rattle.mx_pdu.specs.Event.{room_of}
use Rattle.mx_shard.specs.Inside.{rows_at, number_of}
use Rattle.mx_room.proofs.RoomLemmas.{at-error}
use Rattle.mx_shard.proofs.RoomLemmas.{room_found, room_missing}
use Rattle.mx_shard.proofs.ChangeLemmas.{not_hosted, new_row, nothing_new, kept_told}
use Rattle.mx_shard.proofs.offering.offering_in.Goals as goal

pub returns-in_default-clause-offering : goal.returns-in_default-clause-offering
returns-in_default-clause-offering c =
    let gone = room_missing c.args.numbers.now c.args.rooms.now (room_of c.args.offered.now.pdu) c.requires.numbered (ap (number_of c.args.numbers.now) (sym c.room_id.ensures) ∙ sym c.in_default.ensures.value) in
    (refl, not_hosted _ c.args.sending c.args.origin.now c.args.offered.now (ap rows_at gone))

pub bounds-rooms-number : goal.bounds-rooms-number
bounds-rooms-number c =
    (room_found c.args.numbers.now c.args.rooms.now (room_of c.args.offered.now.pdu) c.in-Some.number.now c.requires.numbered (ap (number_of c.args.numbers.now) (sym c.room_id.ensures) ∙ sym c.in-Some.ensures.value)).within

pub offset_bounds-rooms-number : goal.offset_bounds-rooms-number
offset_bounds-rooms-number c =
    let l : c.in-Some.number.now < length c.args.rooms.now =
    (room_found c.args.numbers.now c.args.rooms.now (room_of c.args.offered.now.pdu) c.in-Some.number.now c.requires.numbered (ap (number_of c.args.numbers.now) (sym c.room_id.ensures) ∙ sym c.in-Some.ensures.value)).within in
    omega arith

pub returns-in-Some-row-clause-offering : goal.returns-in-Some-row-clause-offering
returns-in-Some-row-clause-offering c =
    let held : number_of c.args.numbers.now (room_of c.args.offered.now.pdu) ≡ Some c.in-Some.number.now = ap (number_of c.args.numbers.now) (sym c.room_id.ensures) ∙ sym c.in-Some.ensures.value in
    new_row c.args.rooms.now c.args.numbers.now c.args.caller c.args.sending c.args.origin.now c.args.offered.now c.in-Some.number.now c.index-rooms-number.result c.prepare_with_row.new.room c.in_ok-answer.answer c.in_ok-answer.row
    c.requires.numbered held c.in_ok-answer.ensures.answer c.in_ok-answer.ensures.row c.in_ok-answer.ensures.prepared c.in-Some-row.row c.in-Some-row.is

pub returns-in-None-clause-offering : goal.returns-in-None-clause-offering
returns-in-None-clause-offering c =
    let held : number_of c.args.numbers.now (room_of c.args.offered.now.pdu) ≡ Some c.in-Some.number.now = ap (number_of c.args.numbers.now) (sym c.room_id.ensures) ∙ sym c.in-Some.ensures.value in
    nothing_new c.args.rooms.now c.args.numbers.now c.args.caller c.args.sending c.args.origin.now c.args.offered.now c.in-Some.number.now c.index-rooms-number.result c.prepare_with_row.new.room c.in_ok-answer.answer c.in_ok-answer.row
    c.requires.numbered held c.in_ok-answer.ensures.answer c.in_ok-answer.ensures.row c.in_ok-answer.ensures.prepared c.requires.ready c.in-None.is

pub returns-in_err-answer-clause-memory : goal.returns-in_err-answer-clause-memory
returns-in_err-answer-clause-memory c =
    let held : number_of c.args.numbers.now (room_of c.args.offered.now.pdu) ≡ Some c.in-Some.number.now = ap (number_of c.args.numbers.now) (sym c.room_id.ensures) ∙ sym c.in-Some.ensures.value in
    at-error c.from_residual.result
    (kept_told c.args.rooms.now c.args.numbers.now c.args.sending c.args.origin.now c.args.offered.now c.in-Some.number.now c.index-rooms-number.result c.requires.numbered held c.requires.ready c.in_err-answer.ensures.memory)
