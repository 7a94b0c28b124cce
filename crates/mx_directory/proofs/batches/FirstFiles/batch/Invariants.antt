use Rattle.std.proofs.Common.{◌≡◌, length}
use Rattle.mx_directory.proofs.batches.FirstFiles.batch.Given as goal

-- as many paths as were counted
abbrev pub invariant-loop-place : goal.invariant-loop-place
invariant-loop-place l = length l.paths.items ≡ l.place
