use Rattle.mx_room.proofs.RoomLemmas.{sound-kept}
use Rattle.mx_room.proofs.rooms.reopened.Goals as goal

pub begin-requires : goal.begin-requires
begin-requires c = sound-kept c.args.event c.requires
