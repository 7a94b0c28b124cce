use Rattle.std.proofs.Common.{sym, subst}
use Rattle.mx_receipt.specs.TimelineView.{IsSoundCreate}
use Rattle.mx_room.proofs.RoomLemmas.{sound-of}
use Rattle.mx_room.proofs.rooms.begun.Goals as goal

pub begin-requires : goal.begin-requires
begin-requires c = subst IsSoundCreate (sym c.in_ok-event.ensures.cases) (sound-of c.args.offered.now c.requires)
