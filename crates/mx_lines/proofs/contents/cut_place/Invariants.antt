use Rattle.std.proofs.Common.{◌≡◌, ◌≤◌, ◌<◌, length}
use Rattle.mx_lines.specs.Contents as definition
use Rattle.mx_lines.proofs.contents.cut_place.Given as goal

-- the place that is looked for is that from here on
abbrev pub invariant-loop-place : goal.invariant-loop-place
invariant-loop-place l = (definition.cut_place l.text l.place ≡ definition.cut_place l.text l.most) × (l.place ≤ l.most) × (l.most < length l.text)

abbrev pub decreases-loop-place : goal.decreases-loop-place
decreases-loop-place l = l.place
