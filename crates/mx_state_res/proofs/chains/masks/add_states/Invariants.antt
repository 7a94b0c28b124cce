use Rattle.std.proofs.Common.{◌≡◌, ◌||◌, ℕ, ◌<◌, ◌≤◌, length}
use Rattle.mx_state_res.specs.Masks.{has}
use Rattle.mx_state_res.proofs.chains.masks.add_states.Given as goal

-- the states below i are joined, and the others are as they were
abbrev pub invariant-loop-i : goal.invariant-loop-i
invariant-loop-i l = record {
  wide : length l.mask.items ≡ length l.fn.mask.items;
  below : (j : ℕ) → j < l.i → has l.mask.items j ≡ (has l.other j || has l.fn.mask.items j);
  others : (j : ℕ) → l.i ≤ j → has l.mask.items j ≡ has l.fn.mask.items j;
}
