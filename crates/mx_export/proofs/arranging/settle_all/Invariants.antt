use Rattle.std.proofs.Common.{◌≡◌, ℕ, true, take}
use Rattle.mx_export.specs.Arranging.{IsHeld, IsSound, is_in}
use Rattle.mx_export.proofs.arranging.settle_all.Given as goal

abbrev pub invariant-loop-place : goal.invariant-loop-place
invariant-loop-place l = record {
  sound : IsSound l.cited l.arranging;
  written : l.arranging.written.items ≡ l.fn.arranging.written.items;
  held : (p : ℕ) → is_in (take l.place-index l.places) p ≡ true → IsHeld l.arranging p;
  kept : (p : ℕ) → IsHeld l.fn.arranging p → IsHeld l.arranging p;
}
