use Rattle.std.proofs.Common.{◌≡◌, ◌+◌, length}
use Rattle.mx_directory.proofs.directories.take.Given as goal

-- what was taken and what is left are as many as there were
abbrev pub invariant-loop-found : goal.invariant-loop-found
invariant-loop-found g l =
    length l.keepers.items + length l.found-iterator.rest.items ≡ length l.initial.keepers.items + length l.fn.opened.items
