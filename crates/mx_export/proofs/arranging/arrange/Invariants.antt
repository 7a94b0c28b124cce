use Rattle.std.proofs.Common.{◌≡◌, ◌<◌, ◌-◌, ◌++◌, ℕ, true, false, length, replicate}
use Rattle.std.specs.List.{range_with_len}
use Rattle.mx_export.specs.Arrangement.{arranged}
use Rattle.mx_export.specs.Arranging.{IsHeld, IsSound, cites_place, is_left, lefts}
use Rattle.mx_export.proofs.arranging.arrange.Given as goal

abbrev pub invariant-loop-place : goal.invariant-loop-place
invariant-loop-place l = record {
  sound : IsSound l.cited l.arranging;
  written : l.arranging.written.items ≡ replicate (length l.cited) false;
  held : (p : ℕ) → p < l.place → IsHeld l.arranging p;
}

abbrev pub invariant-loop : goal.invariant-loop
invariant-loop l = record {
  sound : IsSound l.cited l.arranging;
  held : (p : ℕ) → is_left l.arranging.written.items p ≡ true → IsHeld l.arranging p;
  so_far :
      l.order.items ++ arranged (cites_place l.cited) (length l.cited - l.counter) (lefts 0 l.arranging.written.items)
      ≡ arranged (cites_place l.cited) (length l.cited) (range_with_len 0 (length l.cited));
}
