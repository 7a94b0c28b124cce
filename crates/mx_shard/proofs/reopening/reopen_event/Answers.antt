use denote.Enum.Bare.{differs_false, differs_true}
use Rattle.std.proofs.Common.{◌<◌, ◌++◌, ◌∷◌, [], ◌∙◌, Err, length, sym, ap, arith, rules}
use Rattle.mx_auth.specs.contracts.versions.RoomVersion.{the_type}
use Rattle.mx_room.specs.Queries.{room_version}
use Rattle.mx_shard.specs.Inside.{journal_of}
use Rattle.mx_shard.specs.declared.journal_places.JournalPlace.{JournalPlace}
use Rattle.mx_shard.proofs.ReopenLemmas.{number-within, event-refused, event-taken, later-version, other-version, own-version}
use Rattle.mx_shard.proofs.reopening.reopen_event.Goals as goal

pub index_mut-room-requires : goal.index_mut-room-requires
index_mut-room-requires c =
    let within : c.args.number < length c.args.rooms.now.items =
    number-within c.args.rooms.now.items c.args.numbers.now c.args.holders.now c.args.journal.now.items c.args.row c.requires.was c.args.number c.requires.found in
    omega (arith, within, c.args.rooms.now.ok.0)

pub returns-in-Ok-clause-journal : goal.returns-in-Ok-clause-journal
returns-in-Ok-clause-journal c =
    (event-taken c.args.rooms.now.items c.args.numbers.now c.args.holders.now c.args.journal.now.items c.args.row c.requires.was c.args.number c.requires.found c.args.id c.index_mut-room.result.now
    c.requires.id c.index_mut-room.ensures.value c.reopen_event.new.self c.add_holder.new.holders c.push.new.self.items c.requires.own c.in-Ok.ensures.free c.in-Ok.ensures.added c.in_ok-add_holder.ensures.moved
    (c.in_ok-push.ensures.items
    ∙ ap (λ n. c.args.journal.now.items ++ (let p : JournalPlace = record { room = c.args.number; row = n; caller = c.args.row.caller } in p) ∷ []) c.len.ensures)).journal

pub returns-in-Ok-clause-made : goal.returns-in-Ok-clause-made
returns-in-Ok-clause-made c =
    (event-taken c.args.rooms.now.items c.args.numbers.now c.args.holders.now c.args.journal.now.items c.args.row c.requires.was c.args.number c.requires.found c.args.id c.index_mut-room.result.now
    c.requires.id c.index_mut-room.ensures.value c.reopen_event.new.self c.add_holder.new.holders c.push.new.self.items c.requires.own c.in-Ok.ensures.free c.in-Ok.ensures.added c.in_ok-add_holder.ensures.moved
    (c.in_ok-push.ensures.items
    ∙ ap (λ n. c.args.journal.now.items ++ (let p : JournalPlace = record { room = c.args.number; row = n; caller = c.args.row.caller } in p) ∷ []) c.len.ensures)).made

pub returns-clause-storage : goal.returns-clause-storage
returns-clause-storage c = λ _ can.
    event-refused c.args.rooms.now.items c.args.numbers.now c.args.holders.now c.args.journal.now.items c.args.row c.requires.was c.args.number c.requires.found c.args.id c.index_mut-room.result.now
    c.requires.id c.index_mut-room.ensures.value c.in-Err-NotReceived.field-0-0 ((c.in-Err-NotReceived.ensures.refused c.in-Err-NotReceived.field-0-0).0 (ap Err c.in-Err-NotReceived.field-0-is)) can.0

pub returns-then-ne-clause-storage : goal.returns-then-ne-clause-storage
returns-then-ne-clause-storage c = λ _.
    other-version (journal_of c.args.rooms.now.items c.args.journal.now.items) c.args.row (room_version c.index_mut-room.result.now.kept)
    (later-version c.args.rooms.now.items c.args.numbers.now c.args.holders.now c.args.journal.now.items c.args.row c.requires.was c.args.number c.requires.found c.index_mut-room.result.now c.index_mut-room.ensures.value)
    (λ same. differs_true the_type c.version.result c.args.row.version (sym c.ne.ensures ∙ c.if-ne.true) (c.version.ensures ∙ sym same))

pub returns-in-Ok-clause-version : goal.returns-in-Ok-clause-version
returns-in-Ok-clause-version c =
    own-version (journal_of c.args.rooms.now.items c.args.journal.now.items) c.args.row (room_version c.index_mut-room.result.now.kept)
    (later-version c.args.rooms.now.items c.args.numbers.now c.args.holders.now c.args.journal.now.items c.args.row c.requires.was c.args.number c.requires.found c.index_mut-room.result.now c.index_mut-room.ensures.value)
    (sym (differs_false the_type (search rules) c.version.result c.args.row.version (sym c.ne.ensures ∙ c.if-ne.false)) ∙ c.version.ensures)
