use Rattle.std.proofs.Common.{◌≡◌, ℕ, true, false, take}
use Rattle.mx_export.specs.Arranging.{is_in, is_left}
use Rattle.mx_export.proofs.arranging.first_left.Given as goal

abbrev pub invariant-loop-place : goal.invariant-loop-place
invariant-loop-place l = (p : ℕ) → is_in (take l.place-index l.places) p ≡ true → is_left l.written p ≡ false
