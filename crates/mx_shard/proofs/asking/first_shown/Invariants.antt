use Rattle.std.proofs.Common.{◌≡◌, ℕ, ◌<◌, false, get_or}
use Rattle.std.specs.Prelude.{is_ok}
use Rattle.mx_room.specs.Queries.{query_answer}
use Rattle.mx_room.specs.RoomView.{RoomView}
use Rattle.mx_shard.proofs.asking.first_shown.Given as goal

-- the rooms so far give nothing
abbrev pub invariant-loop-room : goal.invariant-loop-room
invariant-loop-room l = (k : ℕ) (d : RoomView) → k < l.room-index → is_ok (query_answer (get_or l.rooms k d).kept l.origin l.now l.query) ≡ false
