use Rattle.std.proofs.Common.{◌≡◌, ◌++◌, ◌-◌, length, take, drop}
use Rattle.mx_metrics.specs.Counts.{added}
use Rattle.mx_metrics.proofs.counts.Counts.add.Given as goal

-- the places so far have their sums, and the others are to be added
abbrev pub invariant-loop-place : goal.invariant-loop-place
invariant-loop-place l = take l.place l.self-inside.counts.items ++ added (drop l.place l.self-inside.counts.items) (drop l.place l.fn.others)
    ≡ added l.fn.self l.fn.others

abbrev pub decreases-loop-place : goal.decreases-loop-place
decreases-loop-place l = length l.self-inside.counts.items - l.place
