use Rattle.std.proofs.Common.{◌≡◌, List, None, [], subst, sym, ap, ◌∙◌}
use Rattle.std.specs.Prelude.{IfSome}
use Rattle.mx_room.specs.RoomView.{RoomView}
use Rattle.mx_shard.specs.Journal.{Entry, record_of}
use Rattle.mx_shard.proofs.TakenLemmas.{room-taken, none-taken}
use Rattle.mx_shard.proofs.shards.Shard.into_room.Goals as goal

pub taken_room-requires : goal.taken_room-requires
taken_room-requires g c = c.self.invariant.0.indexed.numbered

pub returns-clause-room : goal.returns-clause-room
returns-clause-room g c =
    let s = c.self.inside in
    subst (λ (journal : List Entry). IfSome c.taken_room.result (λ (room : RoomView). room ≡ record { id = c.args.id.now; kept = record_of journal c.args.id.now; prepared = None }))
    (ap (λ v. v.journal) c.self.view_is)
    (room-taken s.rooms.items s.numbers s.journal.items c.args.id.now c.taken_room.result c.self.invariant.0.indexed c.taken_room.ensures)

pub returns-clause-absent : goal.returns-clause-absent
returns-clause-absent g c = λ none.
    let s = c.self.inside in
    subst (λ (journal : List Entry). record_of journal c.args.id.now ≡ []) (ap (λ v. v.journal) c.self.view_is)
    (none-taken s.rooms.items s.numbers s.journal.items c.args.id.now c.taken_room.result c.self.invariant.0.indexed c.taken_room.ensures none)
