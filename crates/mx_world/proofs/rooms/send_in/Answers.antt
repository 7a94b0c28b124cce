use Rattle.std.proofs.Common.{◌≡◌, ◌∙◌, Err, get_or, ap, length}
use Rattle.mx_keeper.specs.Places.{place_number}
use Rattle.mx_pdu.specs.Event.{room_of}
use Rattle.mx_shard.specs.LoneRoom.{sent_call}
use Rattle.mx_shard.specs.Journal.{journal_after}
use Rattle.mx_shard.proofs.ChangeLemmas.{sent_room}
use Rattle.mx_world.proofs.PlaceLemmas.{placed-is_at, places-set, journals-set, room-called}
use Rattle.mx_world.proofs.StorageLemmas.{lasts-called, all-set, only-set, fails-set}
use Rattle.mx_world.proofs.RefusalLemmas.{is-storage, on_err}
use Rattle.mx_world.proofs.CrashLemmas.{shard-stored, shard-tried}
use Rattle.mx_world.proofs.rooms.send_in.Goals as goal

pub send-requires : goal.send-requires
send-requires g c =
    let room : c.as_str.result.now ≡ room_of c.args.offered.now.pdu = c.as_str.ensures.text ∙ c.room_id.ensures in
    placed-is_at c.args.shards.now (λ shard. shard.place) c.number_for-number.result c.index-shards-number.result (room_of c.args.offered.now.pdu) c.requires
    (c.number_for-number.ensures.number ∙ ap (place_number (length c.args.shards.now)) room) c.number_for-number.ensures.within

pub returns-in_err-answer-clause-err : goal.returns-in_err-answer-clause-err
returns-in_err-answer-clause-err g c =
    on_err c.from_residual.result (journals-set c.args.shards.now (λ shard. shard.journal) c.number_for-number.result c.index-shards-number.result c.send.new.self c.number_for-number.ensures.within c.in_err-answer.ensures.err)

pub returns-in_err-answer-clause-places : goal.returns-in_err-answer-clause-places
returns-in_err-answer-clause-places g c =
    places-set c.args.shards.now (λ shard. shard.place) c.number_for-number.result c.index-shards-number.result c.send.new.self c.number_for-number.ensures.within c.send.ensures.place

pub returns-clause-records : goal.returns-clause-records
returns-clause-records g c = λ room.
    let own : c.as_str.result.now ≡ room_of c.args.offered.now.pdu = c.as_str.ensures.text ∙ c.room_id.ensures in
    room-called c.args.shards.now c.number_for-number.result c.index-shards-number.result c.send.new.self (room_of c.args.offered.now.pdu) (sent_call c.args.sending c.args.origin.now c.args.offered.now) room (sent_room c.args.sending c.args.origin.now c.args.offered.now)
    (c.number_for-number.ensures.number ∙ ap (place_number (length c.args.shards.now)) own) c.number_for-number.ensures.within
    (c.in_ok-answer.ensures.journal ∙ ap (λ n. journal_after (get_or c.args.shards.now c.number_for-number.result c.index-shards-number.result).journal n (room_of c.args.offered.now.pdu) (sent_call c.args.sending c.args.origin.now c.args.offered.now)) c.new.ensures.value)

pub returns-clause-places : goal.returns-clause-places
returns-clause-places g c =
    places-set c.args.shards.now (λ shard. shard.place) c.number_for-number.result c.index-shards-number.result c.send.new.self c.number_for-number.ensures.within c.send.ensures.place

pub returns-in_err-answer-clause-storage : goal.returns-in_err-answer-clause-storage
returns-in_err-answer-clause-storage g c = λ is.
    let own : c.as_str.result.now ≡ room_of c.args.offered.now.pdu = c.as_str.ensures.text ∙ c.room_id.ensures in
    fails-set (λ shard. shard.is_refused) (λ shard. g.K.Keeper.failed shard.keeper) c.args.shards.now c.number_for-number.result c.index-shards-number.result c.send.new.self (room_of c.args.offered.now.pdu)
    (c.number_for-number.ensures.number ∙ ap (place_number (length c.args.shards.now)) own) c.number_for-number.ensures.within
    (c.in_err-answer.ensures.refused.0 (ap (λ e. Err e) (is-storage c.from_residual.result c.in_err-answer.field-0.0 c.from_residual.ensures.1 is)))
    (lasts-called (λ shard. shard.is_refused) (λ shard. g.K.Keeper.failed shard.keeper) (get_or c.args.shards.now c.number_for-number.result c.index-shards-number.result) c.send.new.self c.in_err-answer.ensures.storage c.in_err-answer.ensures.refused c.in_err-answer.ensures.stays_refused c.send.ensures.counted)

pub returns-in_err-answer-clause-only : goal.returns-in_err-answer-clause-only
returns-in_err-answer-clause-only g c =
    let own : c.as_str.result.now ≡ room_of c.args.offered.now.pdu = c.as_str.ensures.text ∙ c.room_id.ensures in
    only-set c.args.shards.now c.number_for-number.result c.send.new.self (room_of c.args.offered.now.pdu) (c.number_for-number.ensures.number ∙ ap (place_number (length c.args.shards.now)) own)

pub returns-in_err-answer-clause-last : goal.returns-in_err-answer-clause-last
returns-in_err-answer-clause-last g c =
    all-set (λ shard. shard.is_refused) (λ shard. g.K.Keeper.failed shard.keeper) c.args.shards.now c.number_for-number.result c.index-shards-number.result c.send.new.self c.number_for-number.ensures.within
    (lasts-called (λ shard. shard.is_refused) (λ shard. g.K.Keeper.failed shard.keeper) (get_or c.args.shards.now c.number_for-number.result c.index-shards-number.result) c.send.new.self c.in_err-answer.ensures.storage c.in_err-answer.ensures.refused c.in_err-answer.ensures.stays_refused c.send.ensures.counted)

pub returns-clause-only : goal.returns-clause-only
returns-clause-only g c =
    let own : c.as_str.result.now ≡ room_of c.args.offered.now.pdu = c.as_str.ensures.text ∙ c.room_id.ensures in
    only-set c.args.shards.now c.number_for-number.result c.send.new.self (room_of c.args.offered.now.pdu) (c.number_for-number.ensures.number ∙ ap (place_number (length c.args.shards.now)) own)

pub returns-clause-last : goal.returns-clause-last
returns-clause-last g c =
    all-set (λ shard. shard.is_refused) (λ shard. g.K.Keeper.failed shard.keeper) c.args.shards.now c.number_for-number.result c.index-shards-number.result c.send.new.self c.number_for-number.ensures.within
    (lasts-called (λ shard. shard.is_refused) (λ shard. g.K.Keeper.failed shard.keeper) (get_or c.args.shards.now c.number_for-number.result c.index-shards-number.result) c.send.new.self c.in_ok-answer.ensures.storage c.in_ok-answer.ensures.refused c.in_ok-answer.ensures.stays_refused c.send.ensures.counted)

pub returns-in_err-answer-clause-crash : goal.returns-in_err-answer-clause-crash
returns-in_err-answer-clause-crash g c =
    let own : c.as_str.result.now ≡ room_of c.args.offered.now.pdu = c.as_str.ensures.text ∙ c.room_id.ensures in
    shard-tried g.K.Keeper.is_honest g.K.Keeper.may_leave c.args.shards.now c.number_for-number.result c.index-shards-number.result c.send.new.self c.number_for-number.ensures.within c.send.ensures.honest
    c.from_residual.result c.in_err-answer.field-0.0 c.new.result (room_of c.args.offered.now.pdu) (sent_call c.args.sending c.args.origin.now c.args.offered.now) c.from_residual.ensures.1 (sent_room c.args.sending c.args.origin.now c.args.offered.now) c.new.ensures.value
    (placed-is_at c.args.shards.now (λ shard. shard.place) c.number_for-number.result c.index-shards-number.result (room_of c.args.offered.now.pdu) c.requires
    (c.number_for-number.ensures.number ∙ ap (place_number (length c.args.shards.now)) own) c.number_for-number.ensures.within)
    c.send.ensures.place c.in_err-answer.ensures.err c.send.ensures.crash

pub returns-clause-crash : goal.returns-clause-crash
returns-clause-crash g c = shard-stored g.K.Keeper.is_honest g.K.Keeper.may_leave c.args.shards.now c.number_for-number.result c.index-shards-number.result c.send.new.self c.number_for-number.ensures.within c.send.ensures.honest c.in_ok-answer.ensures.durable
