use Rattle.std.proofs.Common.{ap, ◌∙◌}
use Rattle.std.specs.Prelude.{is_some}
use Rattle.mx_room.specs.RoomView.{RoomView, has_event}
use Rattle.mx_room.proofs.HeldLemmas.{has-place}
use Rattle.mx_room.proofs.rooms.Room.holds.Goals as goal

pub returns : goal.returns
returns c =
    c.is_some.ensures ∙ ap is_some c.find.ensures.place ∙ has-place c.self.inside.timeline.kept c.args.id.now
    ∙ ap (λ (room : RoomView). has_event room.kept c.args.id.now) c.self.view_is
