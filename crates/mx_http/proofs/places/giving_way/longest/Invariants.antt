use Rattle.std.proofs.Common.{◌≡◌, ◌≤◌, drop, length}
use Rattle.mx_http.specs.Places.{longest_from}
use Rattle.mx_http.proofs.places.giving_way.longest.Given as goal

-- the longest of the places from this one on is found
abbrev pub invariant-loop-place : goal.invariant-loop-place
invariant-loop-place l = (l.place ≤ length l.activities) × (l.found ≡ longest_from l.waiting l.place (drop l.place l.activities))
