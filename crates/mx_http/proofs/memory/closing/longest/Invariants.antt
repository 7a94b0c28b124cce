use Rattle.std.proofs.Common.{◌≡◌, ◌≤◌, drop, length}
use Rattle.mx_http.specs.Memory.{longest_from}
use Rattle.mx_http.proofs.memory.closing.longest.Given as goal

-- the longest of the places from this one on is found
abbrev pub invariant-loop-place : goal.invariant-loop-place
invariant-loop-place l = (l.place ≤ length l.holders) × (l.found ≡ longest_from l.awaited l.place (drop l.place l.holders))
