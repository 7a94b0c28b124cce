use Rattle.std.proofs.Common.{◌-◌}
use Rattle.mx_room_figures.proofs.surveys.survey.Given as goal

abbrev pub decreases-loop-place : goal.decreases-loop-place
decreases-loop-place l = l.end - l.place
