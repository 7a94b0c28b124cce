use Rattle.std.proofs.Common.{◌≡◌, ◌⊎◌, List, [], ◌∷◌, ◌++◌, length, Some, IsTrue, refl, sym, ap, subst, ◌∙◌}
use Rattle.mx_keeper.specs.Keeping.{with_row}
use Rattle.mx_keeper.specs.Places.{is_at}
use Rattle.mx_pdu.specs.Event.{room_of}
use Rattle.mx_room.specs.RoomView.{RoomView}
use Rattle.mx_shard.specs.LoneRoom.{to_host, answer}
use Rattle.mx_shard.specs.Journal.{record_of, journal_after, stored}
use Rattle.mx_shard.specs.Holders.{IsHolderMoved, holder_of, holder_without, may_hold}
use Rattle.mx_shard.specs.Inside.{journal_of}
use Rattle.mx_shard.specs.View.{ShardView}
use Rattle.mx_shard.specs.declared.hosting.NewRoom.{NewRoom}
use Rattle.mx_shard.proofs.ChangeLemmas.{made_of, made_id}
use Rattle.mx_shard.proofs.HolderLemmas.{kept_with, kept_back, now_held, holding_same, holding_push}
use Rattle.mx_shard.proofs.IndexLemmas.{first, sound_same, sound_after, journal_stays, host_reply, host_stored, host_after, host_removed, either_left, place_after}
use Rattle.mx_shard.proofs.shards.Shard.host.Goals as goal

pub invariant_of-self : goal.invariant_of-self
invariant_of-self g c =
    let b = c.self.inside in
    let r = c.reserve_room.new in
    let e = c.in_err-new-in-Made.ensures in (
      sound_same b.place b.rooms.items r.rooms.items b.numbers r.numbers b.journal.items r.journal.items c.self.invariant.0 e.rooms e.journal e.err,
      λ taken honest.
          let was = c.self.invariant.1 taken honest in
          (was.0, was.1 ∙ ap (λ js. Some (stored js)) (sym (journal_stays b.place b.rooms.items r.rooms.items b.numbers r.numbers b.journal.items r.journal.items c.self.invariant.0 e.rooms e.journal))),
      holding_same b.holders r.holders b.rooms.items r.rooms.items c.self.invariant.2 e.kept e.rooms,
    )

pub invariant_of-self-in-Ok : goal.invariant_of-self-in-Ok
invariant_of-self-in-Ok g c =
    let b = c.self.inside in
    let r = c.reserve_room.new in
    let e = c.in_ok-new-in-Made.ensures in
    let new = c.in_ok-new-in-Made.new in
    let o = c.args.offered.now in
    let made = made_of c.deref.result.now b.rooms.items c.args.caller o c.in_ok-answer.field-0 c.in-Made.new new c.deref.ensures.value c.in-Made.is e.new c.in_ok-answer.ensures.hosting in
    let named = ap (λ (n : NewRoom). n.room.id) (sym e.new) ∙ made_id b.rooms.items c.args.caller o new made in
    let after = host_after b.rooms.items b.numbers b.journal.items c.args.caller o new c.self.invariant.0.indexed made c.add_room.new.rooms.items r.numbers c.in-Made.new.room.id c.add_room.new.journal.items
    (c.add_room.ensures.rooms ∙ ap (λ (rs : List RoomView). rs ++ new.room ∷ []) e.rooms) named e.moved
    (place_after c.args.caller r.rooms.items b.rooms.items r.journal.items b.journal.items c.add_room.new.journal.items e.rooms e.journal c.add_room.ensures.journal) in (
      sound_after b.place b.rooms.items c.add_room.new.rooms.items b.numbers r.numbers b.journal.items c.add_room.new.journal.items c.self.invariant.0 c.args.caller (room_of o.pdu) (to_host o) refl
          (subst (λ (v : ShardView _). IsTrue (is_at v.place (room_of o.pdu))) (sym c.self.view_is) c.requires) after,
      λ taken honest.
          let was = c.self.invariant.1 c.if-self.false (c.store.ensures.honest honest) in
          let now = c.in-Ok.ensures.ok honest in
          (now.0, now.1 ∙ host_stored b.rooms.items b.numbers b.journal.items c.args.caller o new c.self.invariant.0.indexed made (g.K.Keeper.rows b.keeper) was.1 ∙ ap (λ js. Some (stored js)) (sym after.journal)),
      holding_push b.holders r.holders b.rooms.items c.add_room.new.rooms.items new.room (first o) c.self.invariant.2 (kept_with b.holders r.holders c.in-Made.new.id (length b.rooms.items) e.held)
          (c.add_room.ensures.rooms ∙ ap (λ (rs : List RoomView). rs ++ new.room ∷ []) e.rooms) (ap (λ (room : RoomView). room.kept) made.room)
          (subst (λ i. IsTrue (may_hold (holder_of r.holders i) (length b.rooms.items))) (ap (λ (n : NewRoom). n.id) (sym e.new) ∙ made.id) (now_held b.holders r.holders c.in-Made.new.id (length b.rooms.items) e.held)),
    )

pub invariant_of-self-in-Err : goal.invariant_of-self-in-Err
invariant_of-self-in-Err g c =
    let b = c.self.inside in
    let r = c.reserve_room.new in
    let e = c.in_ok-new-in-Made.ensures in
    let new = c.in_ok-new-in-Made.new in
    let o = c.args.offered.now in
    let made = made_of c.deref.result.now b.rooms.items c.args.caller o c.in_ok-answer.field-0 c.in-Made.new new c.deref.ensures.value c.in-Made.is e.new c.in_ok-answer.ensures.hosting in
    let named = ap (λ (n : NewRoom). n.room.id) (sym e.new) ∙ made_id b.rooms.items c.args.caller o new made in
    let own = made_id b.rooms.items c.args.caller o new made in
    let same = host_removed b.rooms.items b.numbers b.journal.items c.args.caller o new c.self.invariant.0.indexed made r.numbers c.remove_room.new.numbers c.in-Made.new.room.id new.room.id named own e.moved c.remove_room.ensures.moved in (
      sound_same b.place b.rooms.items r.rooms.items b.numbers c.remove_room.new.numbers b.journal.items r.journal.items c.self.invariant.0 e.rooms e.journal same,
      λ taken honest.
          let was = c.self.invariant.1 c.if-self.false (c.store.ensures.honest honest) in
          let now = c.in-Err.ensures.err honest was.0 taken in
          (now.0, now.1 ∙ was.1 ∙ ap (λ js. Some (stored js)) (sym (journal_stays b.place b.rooms.items r.rooms.items b.numbers r.numbers b.journal.items r.journal.items c.self.invariant.0 e.rooms e.journal))),
      holding_same b.holders c.remove_room.new.holders b.rooms.items r.rooms.items c.self.invariant.2
          (kept_back b.holders r.holders c.remove_room.new.holders c.in-Made.new.id (length b.rooms.items) e.held
          (subst (λ i. IsHolderMoved r.holders c.remove_room.new.holders i (holder_without (holder_of r.holders i))) (ap (λ (n : NewRoom). n.id) e.new) c.remove_room.ensures.holders))
          e.rooms,
    )

pub returns-in-Ok-clause-reply : goal.returns-in-Ok-clause-reply
returns-in-Ok-clause-reply g c =
    let b = c.self.inside in
    let r = c.reserve_room.new in
    let e = c.in_ok-new-in-Made.ensures in
    let new = c.in_ok-new-in-Made.new in
    let o = c.args.offered.now in
    let made = made_of c.deref.result.now b.rooms.items c.args.caller o c.in_ok-answer.field-0 c.in-Made.new new c.deref.ensures.value c.in-Made.is e.new c.in_ok-answer.ensures.hosting in
    c.add_room.ensures.reply ∙ host_reply b.rooms.items b.numbers b.journal.items c.args.caller o new c.self.invariant.0.indexed made
    ∙ ap (λ (v : ShardView _). answer (record_of v.journal (room_of o.pdu)) (to_host o)) c.self.view_is

pub returns-in-Ok-clause-journal : goal.returns-in-Ok-clause-journal
returns-in-Ok-clause-journal g c =
    let b = c.self.inside in
    let r = c.reserve_room.new in
    let e = c.in_ok-new-in-Made.ensures in
    let new = c.in_ok-new-in-Made.new in
    let o = c.args.offered.now in
    let made = made_of c.deref.result.now b.rooms.items c.args.caller o c.in_ok-answer.field-0 c.in-Made.new new c.deref.ensures.value c.in-Made.is e.new c.in_ok-answer.ensures.hosting in
    let named = ap (λ (n : NewRoom). n.room.id) (sym e.new) ∙ made_id b.rooms.items c.args.caller o new made in
    let after = host_after b.rooms.items b.numbers b.journal.items c.args.caller o new c.self.invariant.0.indexed made c.add_room.new.rooms.items r.numbers c.in-Made.new.room.id c.add_room.new.journal.items
    (c.add_room.ensures.rooms ∙ ap (λ (rs : List RoomView). rs ++ new.room ∷ []) e.rooms) named e.moved
    (place_after c.args.caller r.rooms.items b.rooms.items r.journal.items b.journal.items c.add_room.new.journal.items e.rooms e.journal c.add_room.ensures.journal) in
    after.journal ∙ ap (λ (v : ShardView _). journal_after v.journal c.args.caller (room_of o.pdu) (to_host o)) c.self.view_is

pub returns-in-Ok-clause-durable : goal.returns-in-Ok-clause-durable
returns-in-Ok-clause-durable g c = λ honest left may.
    let b = c.self.inside in
    let r = c.reserve_room.new in
    let e = c.in_ok-new-in-Made.ensures in
    let new = c.in_ok-new-in-Made.new in
    let o = c.args.offered.now in
    let made = made_of c.deref.result.now b.rooms.items c.args.caller o c.in_ok-answer.field-0 c.in-Made.new new c.deref.ensures.value c.in-Made.is e.new c.in_ok-answer.ensures.hosting in
    let named = ap (λ (n : NewRoom). n.room.id) (sym e.new) ∙ made_id b.rooms.items c.args.caller o new made in
    let after = host_after b.rooms.items b.numbers b.journal.items c.args.caller o new c.self.invariant.0.indexed made c.add_room.new.rooms.items r.numbers c.in-Made.new.room.id c.add_room.new.journal.items
    (c.add_room.ensures.rooms ∙ ap (λ (rs : List RoomView). rs ++ new.room ∷ []) e.rooms) named e.moved
    (place_after c.args.caller r.rooms.items b.rooms.items r.journal.items b.journal.items c.add_room.new.journal.items e.rooms e.journal c.add_room.ensures.journal) in
    let was = c.self.invariant.1 c.if-self.false (c.store.ensures.honest honest) in
    c.in-Ok.ensures.durable honest left may ∙ host_stored b.rooms.items b.numbers b.journal.items c.args.caller o new c.self.invariant.0.indexed made (g.K.Keeper.rows b.keeper) was.1
    ∙ ap (λ js. Some (stored js)) (sym after.journal)

pub returns-in-Ok-clause-crash : goal.returns-in-Ok-clause-crash
returns-in-Ok-clause-crash g c = λ honest left may.
    let b = c.self.inside in
    let r = c.reserve_room.new in
    let e = c.in_ok-new-in-Made.ensures in
    let new = c.in_ok-new-in-Made.new in
    let o = c.args.offered.now in
    let made = made_of c.deref.result.now b.rooms.items c.args.caller o c.in_ok-answer.field-0 c.in-Made.new new c.deref.ensures.value c.in-Made.is e.new c.in_ok-answer.ensures.hosting in
    let was = c.self.invariant.1 c.if-self.false (c.store.ensures.honest honest) in
    subst (λ (v : ShardView _). g.K.Keeper.may_leave v.keeper left ⊎ (left ≡ Some (stored (journal_after v.journal c.args.caller (room_of o.pdu) (to_host o))))) c.self.view_is
    (either_left left (with_row (g.K.Keeper.rows b.keeper) new.row) (Some (stored (journal_after (journal_of b.rooms.items b.journal.items) c.args.caller (room_of o.pdu) (to_host o)))) (c.store.ensures.crash honest left may)
    (host_stored b.rooms.items b.numbers b.journal.items c.args.caller o new c.self.invariant.0.indexed made (g.K.Keeper.rows b.keeper) was.1))

pub returns-in-Err-clause-crash : goal.returns-in-Err-clause-crash
returns-in-Err-clause-crash g c = λ honest left may.
    let b = c.self.inside in
    let r = c.reserve_room.new in
    let e = c.in_ok-new-in-Made.ensures in
    let new = c.in_ok-new-in-Made.new in
    let o = c.args.offered.now in
    let made = made_of c.deref.result.now b.rooms.items c.args.caller o c.in_ok-answer.field-0 c.in-Made.new new c.deref.ensures.value c.in-Made.is e.new c.in_ok-answer.ensures.hosting in
    let was = c.self.invariant.1 c.if-self.false (c.store.ensures.honest honest) in
    subst (λ (v : ShardView _). g.K.Keeper.may_leave v.keeper left ⊎ (left ≡ Some (stored (journal_after v.journal c.args.caller (room_of o.pdu) (to_host o))))) c.self.view_is
    (either_left left (with_row (g.K.Keeper.rows b.keeper) new.row) (Some (stored (journal_after (journal_of b.rooms.items b.journal.items) c.args.caller (room_of o.pdu) (to_host o)))) (c.store.ensures.crash honest left may)
    (host_stored b.rooms.items b.numbers b.journal.items c.args.caller o new c.self.invariant.0.indexed made (g.K.Keeper.rows b.keeper) was.1))
