use Rattle.std.proofs.Common.{length, ◌-◌}
use Rattle.mx_room_figures.proofs.lines.room_lines.Given as goal

abbrev pub decreases-loop-place : goal.decreases-loop-place
decreases-loop-place l = length l.rooms - l.place
