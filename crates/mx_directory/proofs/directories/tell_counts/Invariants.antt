use Rattle.std.proofs.Common.{◌≡◌, ◌+◌, length}
use Rattle.mx_directory.proofs.directories.tell_counts.Given as goal

-- the number goes on with what was told
abbrev pub invariant-loop-rows : goal.invariant-loop-rows
invariant-loop-rows g l = l.number + length l.rows-iterator.rest.items ≡ l.fn.first + length l.fn.counts.items
