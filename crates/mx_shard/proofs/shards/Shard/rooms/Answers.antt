use Rattle.std.proofs.Common.{List, subst, sym, ap, ◌∙◌}
use Rattle.mx_room.specs.RoomView.{RoomView}
use Rattle.mx_shard.specs.Journal.{Entry}
use Rattle.mx_shard.specs.Rooms.{AreRoomsOf}
use Rattle.mx_shard.proofs.RoomLemmas.{rooms-are}
use Rattle.mx_shard.proofs.shards.Shard.rooms.Goals as goal

pub returns : goal.returns
returns g c =
    let s = c.self.inside in
    subst (λ (rooms : List RoomView). AreRoomsOf c.args.self.now.journal rooms) (sym c.deref.ensures.value)
    (subst (λ (journal : List Entry). AreRoomsOf journal s.rooms.items) (ap (λ v. v.journal) c.self.view_is)
    (rooms-are s.rooms.items s.numbers s.journal.items c.self.invariant.0.indexed))
