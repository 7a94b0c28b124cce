use Rattle.std.proofs.Common.{◌≡◌, ◌≤◌, drop}
use Rattle.mx_lines.specs.Scanning.{left_from, outside}
use Rattle.mx_lines.proofs.scanning.member_length.Given as goal

abbrev pub invariant-loop-place : goal.invariant-loop-place
invariant-loop-place l = (l.scan.depth ≤ l.place) × (left_from l.scan (drop l.place l.text) ≡ left_from (outside 0) l.text)
