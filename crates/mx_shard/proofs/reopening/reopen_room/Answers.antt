use denote.Enum.Bare.{differs_false, differs_true}
use Rattle.std.proofs.Common.{◌∙◌, Err, sym, ap, rules}
use Rattle.mx_auth.specs.contracts.versions.RoomVersion.{the_type}
use Rattle.mx_room.specs.Queries.{room_version}
use Rattle.mx_shard.specs.Inside.{journal_of}
use Rattle.mx_shard.proofs.ReopenLemmas.{first-version, no-room, other-version, own-version, room-taken}
use Rattle.mx_shard.proofs.reopening.reopen_room.Goals as goal

pub returns-in-Ok-clause-journal : goal.returns-in-Ok-clause-journal
returns-in-Ok-clause-journal c =
    (room-taken c.args.rooms.now.items c.args.numbers.now c.args.holders.now c.args.journal.now.items c.args.row c.requires.was c.requires.missing c.as_slice-number.result.now c.args.id c.in-Ok.room
    c.push.new.self.items c.insert.new.self c.add_holder.new.holders c.push-in-Ok.new.self.items c.as_slice-number.ensures.value c.requires.id c.requires.own c.in-Ok.ensures.free c.in-Ok.ensures.reopened
    c.in_ok-push-in-Ok.ensures.items c.in_ok-insert-in-Ok.ensures.updates.0 c.in_ok-add_holder.ensures.moved c.in_ok-push-in-Ok-2.ensures.items).journal

pub returns-in-Ok-clause-made : goal.returns-in-Ok-clause-made
returns-in-Ok-clause-made c =
    (room-taken c.args.rooms.now.items c.args.numbers.now c.args.holders.now c.args.journal.now.items c.args.row c.requires.was c.requires.missing c.as_slice-number.result.now c.args.id c.in-Ok.room
    c.push.new.self.items c.insert.new.self c.add_holder.new.holders c.push-in-Ok.new.self.items c.as_slice-number.ensures.value c.requires.id c.requires.own c.in-Ok.ensures.free c.in-Ok.ensures.reopened
    c.in_ok-push-in-Ok.ensures.items c.in_ok-insert-in-Ok.ensures.updates.0 c.in_ok-add_holder.ensures.moved c.in_ok-push-in-Ok-2.ensures.items).made

pub returns-clause-storage : goal.returns-clause-storage
returns-clause-storage c = λ _ can.
    no-room c.args.rooms.now.items c.args.numbers.now c.args.holders.now c.args.journal.now.items c.args.row c.requires.was c.requires.missing c.in-Err-NotARoom.field-0-0
    ((c.in-Err-NotARoom.ensures.refused c.in-Err-NotARoom.field-0-0).0 (ap Err c.in-Err-NotARoom.field-0-is)) can.0

pub returns-then-ne-clause-storage : goal.returns-then-ne-clause-storage
returns-then-ne-clause-storage c = λ _.
    other-version (journal_of c.args.rooms.now.items c.args.journal.now.items) c.args.row (room_version c.in-Ok.room.kept)
    (first-version c.args.rooms.now.items c.args.numbers.now c.args.holders.now c.args.journal.now.items c.args.row c.requires.was c.requires.missing c.args.id c.in-Ok.room c.requires.id c.in-Ok.ensures.reopened)
    (λ same. differs_true the_type c.version.result c.args.row.version (sym c.ne.ensures ∙ c.if-ne.true) (c.version.ensures ∙ sym same))

pub returns-in-Ok-clause-version : goal.returns-in-Ok-clause-version
returns-in-Ok-clause-version c =
    own-version (journal_of c.args.rooms.now.items c.args.journal.now.items) c.args.row (room_version c.in-Ok.room.kept)
    (first-version c.args.rooms.now.items c.args.numbers.now c.args.holders.now c.args.journal.now.items c.args.row c.requires.was c.requires.missing c.args.id c.in-Ok.room c.requires.id c.in-Ok.ensures.reopened)
    (sym (differs_false the_type (search rules) c.version.result c.args.row.version (sym c.ne.ensures ∙ c.if-ne.false)) ∙ c.version.ensures)
