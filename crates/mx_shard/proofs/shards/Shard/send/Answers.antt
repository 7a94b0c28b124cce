use Rattle.std.proofs.Common.{◌≡◌, ◌⊎◌, ◌<◌, List, ◌++◌, length, take, drop, set, Some, None, IsTrue, refl, sym, ap, subst, ◌∙◌}
use Rattle.mx_keeper.specs.Keeping.{with_row}
use Rattle.mx_keeper.specs.Places.{is_at}
use Rattle.mx_pdu.specs.Event.{room_of}
use Rattle.mx_room.specs.RoomView.{RoomView}
use Rattle.mx_shard.specs.LoneRoom.{answer, sent_call}
use Rattle.mx_shard.specs.Told.{tells_kept}
use Rattle.mx_shard.specs.Journal.{record_of, journal_after, stored}
use Rattle.mx_shard.specs.Inside.{journal_of, room_at, with_kept, with_prepared}
use Rattle.mx_shard.specs.View.{ShardView}
use Rattle.mx_shard.proofs.ChangeLemmas.{prepared_of, offer_told, sent_room, written_back}
use Rattle.mx_shard.proofs.HolderLemmas.{holding_same}
use Rattle.mx_shard.proofs.IndexLemmas.{sound_same, sound_after, journal_stays, journal_is_same, number_below, offer_kept, offer_reply, offer_stored, offer_after, offer_holding, discarded, place_kept, either_left}
use Rattle.mx_shard.proofs.shards.Shard.send.Goals as goal

pub returns-in-Answered-clause-journal : goal.returns-in-Answered-clause-journal
returns-in-Answered-clause-journal g c =
    let b = c.self.inside in
    let origin = c.args.origin.now in
    let o = c.args.offered.now in
    let mid = c.offering_in.new.rooms in
    let rooms = take b.rooms.len (mid ++ drop (length mid) b.rooms.items) in
    let long : length mid ≡ length b.rooms.items = c.offering_in.auto.rooms ∙ ap (λ (rs : List RoomView). length rs) c.deref_mut.ensures.value in
    let back : rooms ≡ mid = written_back b.rooms.len b.rooms.items mid b.rooms.ok.0 long in
    let told = offer_told c.deref_mut.result.now b.rooms.items mid b.numbers c.args.caller c.args.sending origin o c.in_ok-answer.field-0 c.in-Answered.answer c.deref_mut.ensures.value c.in-Answered.is c.in_ok-answer.ensures.offering in
    let stays = journal_stays b.place b.rooms.items rooms b.numbers b.numbers b.journal.items b.journal.items c.self.invariant.0 (back ∙ told.0) refl in
    stays
    ∙ journal_is_same b.place b.rooms.items b.rooms.items b.numbers b.numbers b.journal.items b.journal.items c.self.invariant.0 c.args.caller (room_of o.pdu) (sent_call c.args.sending origin o) c.in-Answered.answer told.1
    ∙ ap (λ (v : ShardView _). journal_after v.journal c.args.caller (room_of o.pdu) (sent_call c.args.sending origin o)) c.self.view_is

pub returns-in-Answered-clause-durable : goal.returns-in-Answered-clause-durable
returns-in-Answered-clause-durable g c = λ honest left may.
    let b = c.self.inside in
    let origin = c.args.origin.now in
    let o = c.args.offered.now in
    let mid = c.offering_in.new.rooms in
    let rooms = take b.rooms.len (mid ++ drop (length mid) b.rooms.items) in
    let long : length mid ≡ length b.rooms.items = c.offering_in.auto.rooms ∙ ap (λ (rs : List RoomView). length rs) c.deref_mut.ensures.value in
    let back : rooms ≡ mid = written_back b.rooms.len b.rooms.items mid b.rooms.ok.0 long in
    let told = offer_told c.deref_mut.result.now b.rooms.items mid b.numbers c.args.caller c.args.sending origin o c.in_ok-answer.field-0 c.in-Answered.answer c.deref_mut.ensures.value c.in-Answered.is c.in_ok-answer.ensures.offering in
    let stays = journal_stays b.place b.rooms.items rooms b.numbers b.numbers b.journal.items b.journal.items c.self.invariant.0 (back ∙ told.0) refl in
    let was = c.self.invariant.1 c.if-self.false honest in
    g.met.K.Keeper.settled b.keeper left honest was.0 may ∙ was.1 ∙ ap (λ js. Some (stored js)) (sym stays)

pub install_in-requires-clause-within : goal.install_in-requires-clause-within
install_in-requires-clause-within g c =
    let b = c.self.inside in
    let origin = c.args.origin.now in
    let o = c.args.offered.now in
    let mid = c.offering_in.new.rooms in
    let rooms = take b.rooms.len (mid ++ drop (length mid) b.rooms.items) in
    let long : length mid ≡ length b.rooms.items = c.offering_in.auto.rooms ∙ ap (λ (rs : List RoomView). length rs) c.deref_mut.ensures.value in
    let back : rooms ≡ mid = written_back b.rooms.len b.rooms.items mid b.rooms.ok.0 long in
    let new = c.in-Prepared.new in
    let made = prepared_of c.deref_mut.result.now b.rooms.items mid b.numbers c.args.caller c.args.sending origin o c.in_ok-answer.field-0 new c.deref_mut.ensures.value c.in-Prepared.is c.in_ok-answer.ensures.offering in
    let lent = c.deref_mut-in-Ok.result.now in
    subst (λ (rs : List RoomView). new.number < length rs) (sym (c.deref_mut-in-Ok.ensures.value ∙ back)) (number_below b.rooms.items mid b.numbers b.journal.items c.args.caller c.args.sending origin o new c.self.invariant.0.indexed made)

pub discard_in-requires : goal.discard_in-requires
discard_in-requires g c =
    let b = c.self.inside in
    let origin = c.args.origin.now in
    let o = c.args.offered.now in
    let mid = c.offering_in.new.rooms in
    let rooms = take b.rooms.len (mid ++ drop (length mid) b.rooms.items) in
    let long : length mid ≡ length b.rooms.items = c.offering_in.auto.rooms ∙ ap (λ (rs : List RoomView). length rs) c.deref_mut.ensures.value in
    let back : rooms ≡ mid = written_back b.rooms.len b.rooms.items mid b.rooms.ok.0 long in
    let new = c.in-Prepared.new in
    let made = prepared_of c.deref_mut.result.now b.rooms.items mid b.numbers c.args.caller c.args.sending origin o c.in_ok-answer.field-0 new c.deref_mut.ensures.value c.in-Prepared.is c.in_ok-answer.ensures.offering in
    subst (λ (rs : List RoomView). new.number < length rs) (sym (c.deref_mut-in-Err.ensures.value ∙ back)) (number_below b.rooms.items mid b.numbers b.journal.items c.args.caller c.args.sending origin o new c.self.invariant.0.indexed made)

pub invariant_of-self-in-Ok : goal.invariant_of-self-in-Ok
invariant_of-self-in-Ok g c =
    let b = c.self.inside in
    let origin = c.args.origin.now in
    let o = c.args.offered.now in
    let mid = c.offering_in.new.rooms in
    let rooms = take b.rooms.len (mid ++ drop (length mid) b.rooms.items) in
    let long : length mid ≡ length b.rooms.items = c.offering_in.auto.rooms ∙ ap (λ (rs : List RoomView). length rs) c.deref_mut.ensures.value in
    let back : rooms ≡ mid = written_back b.rooms.len b.rooms.items mid b.rooms.ok.0 long in
    let new = c.in-Prepared.new in
    let made = prepared_of c.deref_mut.result.now b.rooms.items mid b.numbers c.args.caller c.args.sending origin o c.in_ok-answer.field-0 new c.deref_mut.ensures.value c.in-Prepared.is c.in_ok-answer.ensures.offering in
    let lent = c.deref_mut-in-Ok.result.now in
    let is_mid : lent ≡ mid = c.deref_mut-in-Ok.ensures.value ∙ back in
    let kept = c.install_in.new.rooms in
    let after_rooms = take b.rooms.len (kept ++ drop (length kept) rooms) in
    let kept_long : length kept ≡ length mid = c.install_in.auto.rooms ∙ ap (λ (rs : List RoomView). length rs) is_mid in
    let after_is : after_rooms ≡ kept = ap (λ xs. take b.rooms.len (kept ++ drop (length kept) xs)) back ∙ written_back b.rooms.len mid kept (b.rooms.ok.0 ∙ sym long) kept_long in
    let installed : after_rooms ≡ set mid new.number (with_kept (room_at mid new.number) (room_at mid new.number).prepared) =
    after_is ∙ c.install_in.ensures.rooms ∙ ap (λ (rs : List RoomView). set rs new.number (with_kept (room_at rs new.number) (room_at rs new.number).prepared)) is_mid in
    let after = offer_after b.rooms.items mid b.numbers b.journal.items c.args.caller c.args.sending origin o new c.self.invariant.0.indexed made after_rooms c.install_in.new.journal.items installed
    (place_kept new.number c.args.caller lent mid c.store_with_place.new.journal.items b.journal.items c.install_in.new.journal.items is_mid c.store_with_place.ensures.journal c.install_in.ensures.journal) in (
      sound_after b.place b.rooms.items after_rooms b.numbers b.numbers b.journal.items c.install_in.new.journal.items c.self.invariant.0 c.args.caller (room_of o.pdu) (sent_call c.args.sending origin o) (sent_room c.args.sending origin o)
          (subst (λ (v : ShardView _). IsTrue (is_at v.place (room_of o.pdu))) (sym c.self.view_is) c.requires) after,
      λ taken honest.
          let was = c.self.invariant.1 c.if-self.false (c.store_with_place.ensures.honest honest) in
          let now = c.in-Ok.ensures.ok honest in
          (now.0, now.1 ∙ offer_stored b.rooms.items mid b.numbers b.journal.items c.args.caller c.args.sending origin o new c.self.invariant.0.indexed made (g.K.Keeper.rows b.keeper) was.1 ∙ ap (λ js. Some (stored js)) (sym after.journal)),
      offer_holding b.rooms.items mid b.numbers b.journal.items c.args.caller c.args.sending origin o new c.self.invariant.0.indexed made after_rooms b.holders c.store_with_place.new.holders installed c.self.invariant.2
          c.store_with_place.ensures.kept c.in-Ok.ensures.held,
    )

pub invariant_of-self-in-Err : goal.invariant_of-self-in-Err
invariant_of-self-in-Err g c =
    let b = c.self.inside in
    let origin = c.args.origin.now in
    let o = c.args.offered.now in
    let mid = c.offering_in.new.rooms in
    let rooms = take b.rooms.len (mid ++ drop (length mid) b.rooms.items) in
    let long : length mid ≡ length b.rooms.items = c.offering_in.auto.rooms ∙ ap (λ (rs : List RoomView). length rs) c.deref_mut.ensures.value in
    let back : rooms ≡ mid = written_back b.rooms.len b.rooms.items mid b.rooms.ok.0 long in
    let new = c.in-Prepared.new in
    let made = prepared_of c.deref_mut.result.now b.rooms.items mid b.numbers c.args.caller c.args.sending origin o c.in_ok-answer.field-0 new c.deref_mut.ensures.value c.in-Prepared.is c.in_ok-answer.ensures.offering in
    let lent = c.deref_mut-in-Err.result.now in
    let is_mid : lent ≡ mid = c.deref_mut-in-Err.ensures.value ∙ back in
    let left_rooms = c.discard_in.new.rooms in
    let after_rooms = take b.rooms.len (left_rooms ++ drop (length left_rooms) rooms) in
    let left_long : length left_rooms ≡ length mid = c.discard_in.auto.rooms ∙ ap (λ (rs : List RoomView). length rs) is_mid in
    let after_is : after_rooms ≡ left_rooms = ap (λ xs. take b.rooms.len (left_rooms ++ drop (length left_rooms) xs)) back ∙ written_back b.rooms.len mid left_rooms (b.rooms.ok.0 ∙ sym long) left_long in
    let same : after_rooms ≡ b.rooms.items = after_is ∙ discarded b.rooms.items mid b.numbers b.journal.items c.args.caller c.args.sending origin o new c.self.invariant.0.indexed made left_rooms
    (c.discard_in.ensures ∙ ap (λ (rs : List RoomView). set rs new.number (with_prepared (room_at rs new.number) None)) is_mid) in (
      sound_same b.place b.rooms.items after_rooms b.numbers b.numbers b.journal.items c.store_with_place.new.journal.items c.self.invariant.0 same c.store_with_place.ensures.journal (λ id. refl),
      λ taken honest.
          let was = c.self.invariant.1 c.if-self.false (c.store_with_place.ensures.honest honest) in
          let now = c.in-Err.ensures.err honest was.0 taken in
          (now.0, now.1 ∙ was.1 ∙ ap (λ js. Some (stored js)) (sym (journal_stays b.place b.rooms.items after_rooms b.numbers b.numbers b.journal.items c.store_with_place.new.journal.items c.self.invariant.0 same c.store_with_place.ensures.journal))),
      holding_same b.holders c.store_with_place.new.holders b.rooms.items after_rooms c.self.invariant.2 c.store_with_place.ensures.kept same,
    )

pub returns-in-Ok-clause-reply : goal.returns-in-Ok-clause-reply
returns-in-Ok-clause-reply g c =
    let b = c.self.inside in
    let origin = c.args.origin.now in
    let o = c.args.offered.now in
    let mid = c.offering_in.new.rooms in
    let rooms = take b.rooms.len (mid ++ drop (length mid) b.rooms.items) in
    let long : length mid ≡ length b.rooms.items = c.offering_in.auto.rooms ∙ ap (λ (rs : List RoomView). length rs) c.deref_mut.ensures.value in
    let back : rooms ≡ mid = written_back b.rooms.len b.rooms.items mid b.rooms.ok.0 long in
    let new = c.in-Prepared.new in
    let made = prepared_of c.deref_mut.result.now b.rooms.items mid b.numbers c.args.caller c.args.sending origin o c.in_ok-answer.field-0 new c.deref_mut.ensures.value c.in-Prepared.is c.in_ok-answer.ensures.offering in
    c.install_in.ensures.reply ∙ offer_reply b.rooms.items mid b.numbers b.journal.items c.args.caller c.args.sending origin o new c.self.invariant.0.indexed made
    ∙ ap (λ (v : ShardView _). answer (record_of v.journal (room_of o.pdu)) (sent_call c.args.sending origin o)) c.self.view_is

pub returns-in-Ok-clause-journal : goal.returns-in-Ok-clause-journal
returns-in-Ok-clause-journal g c =
    let b = c.self.inside in
    let origin = c.args.origin.now in
    let o = c.args.offered.now in
    let mid = c.offering_in.new.rooms in
    let rooms = take b.rooms.len (mid ++ drop (length mid) b.rooms.items) in
    let long : length mid ≡ length b.rooms.items = c.offering_in.auto.rooms ∙ ap (λ (rs : List RoomView). length rs) c.deref_mut.ensures.value in
    let back : rooms ≡ mid = written_back b.rooms.len b.rooms.items mid b.rooms.ok.0 long in
    let new = c.in-Prepared.new in
    let made = prepared_of c.deref_mut.result.now b.rooms.items mid b.numbers c.args.caller c.args.sending origin o c.in_ok-answer.field-0 new c.deref_mut.ensures.value c.in-Prepared.is c.in_ok-answer.ensures.offering in
    let lent = c.deref_mut-in-Ok.result.now in
    let is_mid : lent ≡ mid = c.deref_mut-in-Ok.ensures.value ∙ back in
    let kept = c.install_in.new.rooms in
    let after_rooms = take b.rooms.len (kept ++ drop (length kept) rooms) in
    let kept_long : length kept ≡ length mid = c.install_in.auto.rooms ∙ ap (λ (rs : List RoomView). length rs) is_mid in
    let after_is : after_rooms ≡ kept = ap (λ xs. take b.rooms.len (kept ++ drop (length kept) xs)) back ∙ written_back b.rooms.len mid kept (b.rooms.ok.0 ∙ sym long) kept_long in
    let installed : after_rooms ≡ set mid new.number (with_kept (room_at mid new.number) (room_at mid new.number).prepared) =
    after_is ∙ c.install_in.ensures.rooms ∙ ap (λ (rs : List RoomView). set rs new.number (with_kept (room_at rs new.number) (room_at rs new.number).prepared)) is_mid in
    let after = offer_after b.rooms.items mid b.numbers b.journal.items c.args.caller c.args.sending origin o new c.self.invariant.0.indexed made after_rooms c.install_in.new.journal.items installed
    (place_kept new.number c.args.caller lent mid c.store_with_place.new.journal.items b.journal.items c.install_in.new.journal.items is_mid c.store_with_place.ensures.journal c.install_in.ensures.journal) in
    after.journal ∙ ap (λ (v : ShardView _). journal_after v.journal c.args.caller (room_of o.pdu) (sent_call c.args.sending origin o)) c.self.view_is

pub returns-in-Ok-clause-durable : goal.returns-in-Ok-clause-durable
returns-in-Ok-clause-durable g c = λ honest left may.
    let b = c.self.inside in
    let origin = c.args.origin.now in
    let o = c.args.offered.now in
    let mid = c.offering_in.new.rooms in
    let rooms = take b.rooms.len (mid ++ drop (length mid) b.rooms.items) in
    let long : length mid ≡ length b.rooms.items = c.offering_in.auto.rooms ∙ ap (λ (rs : List RoomView). length rs) c.deref_mut.ensures.value in
    let back : rooms ≡ mid = written_back b.rooms.len b.rooms.items mid b.rooms.ok.0 long in
    let new = c.in-Prepared.new in
    let made = prepared_of c.deref_mut.result.now b.rooms.items mid b.numbers c.args.caller c.args.sending origin o c.in_ok-answer.field-0 new c.deref_mut.ensures.value c.in-Prepared.is c.in_ok-answer.ensures.offering in
    let lent = c.deref_mut-in-Ok.result.now in
    let is_mid : lent ≡ mid = c.deref_mut-in-Ok.ensures.value ∙ back in
    let kept = c.install_in.new.rooms in
    let after_rooms = take b.rooms.len (kept ++ drop (length kept) rooms) in
    let kept_long : length kept ≡ length mid = c.install_in.auto.rooms ∙ ap (λ (rs : List RoomView). length rs) is_mid in
    let after_is : after_rooms ≡ kept = ap (λ xs. take b.rooms.len (kept ++ drop (length kept) xs)) back ∙ written_back b.rooms.len mid kept (b.rooms.ok.0 ∙ sym long) kept_long in
    let installed : after_rooms ≡ set mid new.number (with_kept (room_at mid new.number) (room_at mid new.number).prepared) =
    after_is ∙ c.install_in.ensures.rooms ∙ ap (λ (rs : List RoomView). set rs new.number (with_kept (room_at rs new.number) (room_at rs new.number).prepared)) is_mid in
    let after = offer_after b.rooms.items mid b.numbers b.journal.items c.args.caller c.args.sending origin o new c.self.invariant.0.indexed made after_rooms c.install_in.new.journal.items installed
    (place_kept new.number c.args.caller lent mid c.store_with_place.new.journal.items b.journal.items c.install_in.new.journal.items is_mid c.store_with_place.ensures.journal c.install_in.ensures.journal) in
    let was = c.self.invariant.1 c.if-self.false (c.store_with_place.ensures.honest honest) in
    c.in-Ok.ensures.durable honest left may ∙ offer_stored b.rooms.items mid b.numbers b.journal.items c.args.caller c.args.sending origin o new c.self.invariant.0.indexed made (g.K.Keeper.rows b.keeper) was.1
    ∙ ap (λ js. Some (stored js)) (sym after.journal)

pub returns-in-Err-clause-err : goal.returns-in-Err-clause-err
returns-in-Err-clause-err g c =
    let b = c.self.inside in
    let origin = c.args.origin.now in
    let o = c.args.offered.now in
    let mid = c.offering_in.new.rooms in
    let rooms = take b.rooms.len (mid ++ drop (length mid) b.rooms.items) in
    let long : length mid ≡ length b.rooms.items = c.offering_in.auto.rooms ∙ ap (λ (rs : List RoomView). length rs) c.deref_mut.ensures.value in
    let back : rooms ≡ mid = written_back b.rooms.len b.rooms.items mid b.rooms.ok.0 long in
    let new = c.in-Prepared.new in
    let made = prepared_of c.deref_mut.result.now b.rooms.items mid b.numbers c.args.caller c.args.sending origin o c.in_ok-answer.field-0 new c.deref_mut.ensures.value c.in-Prepared.is c.in_ok-answer.ensures.offering in
    let lent = c.deref_mut-in-Err.result.now in
    let is_mid : lent ≡ mid = c.deref_mut-in-Err.ensures.value ∙ back in
    let left_rooms = c.discard_in.new.rooms in
    let after_rooms = take b.rooms.len (left_rooms ++ drop (length left_rooms) rooms) in
    let left_long : length left_rooms ≡ length mid = c.discard_in.auto.rooms ∙ ap (λ (rs : List RoomView). length rs) is_mid in
    let after_is : after_rooms ≡ left_rooms = ap (λ xs. take b.rooms.len (left_rooms ++ drop (length left_rooms) xs)) back ∙ written_back b.rooms.len mid left_rooms (b.rooms.ok.0 ∙ sym long) left_long in
    let same : after_rooms ≡ b.rooms.items = after_is ∙ discarded b.rooms.items mid b.numbers b.journal.items c.args.caller c.args.sending origin o new c.self.invariant.0.indexed made left_rooms
    (c.discard_in.ensures ∙ ap (λ (rs : List RoomView). set rs new.number (with_prepared (room_at rs new.number) None)) is_mid) in
    journal_stays b.place b.rooms.items after_rooms b.numbers b.numbers b.journal.items c.store_with_place.new.journal.items c.self.invariant.0 same c.store_with_place.ensures.journal ∙ ap (λ (v : ShardView _). v.journal) c.self.view_is

pub returns-in-Ok-clause-crash : goal.returns-in-Ok-clause-crash
returns-in-Ok-clause-crash g c = λ honest left may.
    let b = c.self.inside in
    let origin = c.args.origin.now in
    let o = c.args.offered.now in
    let mid = c.offering_in.new.rooms in
    let rooms = take b.rooms.len (mid ++ drop (length mid) b.rooms.items) in
    let long : length mid ≡ length b.rooms.items = c.offering_in.auto.rooms ∙ ap (λ (rs : List RoomView). length rs) c.deref_mut.ensures.value in
    let back : rooms ≡ mid = written_back b.rooms.len b.rooms.items mid b.rooms.ok.0 long in
    let new = c.in-Prepared.new in
    let made = prepared_of c.deref_mut.result.now b.rooms.items mid b.numbers c.args.caller c.args.sending origin o c.in_ok-answer.field-0 new c.deref_mut.ensures.value c.in-Prepared.is c.in_ok-answer.ensures.offering in
    let was = c.self.invariant.1 c.if-self.false (c.store_with_place.ensures.honest honest) in
    subst (λ (v : ShardView _). g.K.Keeper.may_leave v.keeper left ⊎ (left ≡ Some (stored (journal_after v.journal c.args.caller (room_of o.pdu) (sent_call c.args.sending origin o))))) c.self.view_is
    (either_left left (with_row (g.K.Keeper.rows b.keeper) new.row) (Some (stored (journal_after (journal_of b.rooms.items b.journal.items) c.args.caller (room_of o.pdu) (sent_call c.args.sending origin o)))) (c.store_with_place.ensures.crash honest left may)
    (offer_stored b.rooms.items mid b.numbers b.journal.items c.args.caller c.args.sending origin o new c.self.invariant.0.indexed made (g.K.Keeper.rows b.keeper) was.1))

pub returns-in-Err-clause-crash : goal.returns-in-Err-clause-crash
returns-in-Err-clause-crash g c = λ honest left may.
    let b = c.self.inside in
    let origin = c.args.origin.now in
    let o = c.args.offered.now in
    let mid = c.offering_in.new.rooms in
    let rooms = take b.rooms.len (mid ++ drop (length mid) b.rooms.items) in
    let long : length mid ≡ length b.rooms.items = c.offering_in.auto.rooms ∙ ap (λ (rs : List RoomView). length rs) c.deref_mut.ensures.value in
    let back : rooms ≡ mid = written_back b.rooms.len b.rooms.items mid b.rooms.ok.0 long in
    let new = c.in-Prepared.new in
    let made = prepared_of c.deref_mut.result.now b.rooms.items mid b.numbers c.args.caller c.args.sending origin o c.in_ok-answer.field-0 new c.deref_mut.ensures.value c.in-Prepared.is c.in_ok-answer.ensures.offering in
    let was = c.self.invariant.1 c.if-self.false (c.store_with_place.ensures.honest honest) in
    subst (λ (v : ShardView _). g.K.Keeper.may_leave v.keeper left ⊎ (left ≡ Some (stored (journal_after v.journal c.args.caller (room_of o.pdu) (sent_call c.args.sending origin o))))) c.self.view_is
    (either_left left (with_row (g.K.Keeper.rows b.keeper) new.row) (Some (stored (journal_after (journal_of b.rooms.items b.journal.items) c.args.caller (room_of o.pdu) (sent_call c.args.sending origin o)))) (c.store_with_place.ensures.crash honest left may)
    (offer_stored b.rooms.items mid b.numbers b.journal.items c.args.caller c.args.sending origin o new c.self.invariant.0.indexed made (g.K.Keeper.rows b.keeper) was.1))

pub returns-in-Err-clause-memory : goal.returns-in-Err-clause-memory
returns-in-Err-clause-memory g c = λ memory.
    let b = c.self.inside in
    let origin = c.args.origin.now in
    let o = c.args.offered.now in
    let mid = c.offering_in.new.rooms in
    let made = prepared_of c.deref_mut.result.now b.rooms.items mid b.numbers c.args.caller c.args.sending origin o c.in_ok-answer.field-0 c.in-Prepared.new c.deref_mut.ensures.value c.in-Prepared.is c.in_ok-answer.ensures.offering in
    subst (λ (v : ShardView _). IsTrue (tells_kept (answer (record_of v.journal (room_of o.pdu)) (sent_call c.args.sending origin o)))) c.self.view_is
    (offer_kept b.rooms.items mid b.numbers b.journal.items c.args.caller c.args.sending origin o c.in-Prepared.new c.self.invariant.0.indexed made)
