use Rattle.std.proofs.Common.{◌≡◌, ℕ, [], length}
use Rattle.mx_export.specs.Arranging.{listed}
use Rattle.mx_export.proofs.arranging.empty_lists.Given as goal

abbrev pub invariant-loop : goal.invariant-loop
invariant-loop l = record {
  len : length l.lists.items ≡ l.counter;
  empty : (p : ℕ) → listed l.lists.items p ≡ [];
}
