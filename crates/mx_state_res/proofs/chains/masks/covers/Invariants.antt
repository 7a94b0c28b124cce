use Rattle.std.proofs.Common.{◌≡◌, ◌<◌, ℕ, true}
use Rattle.mx_state_res.specs.Masks.{has}
use Rattle.mx_state_res.proofs.chains.masks.covers.Given as goal

-- the states below i are had
abbrev pub invariant-loop-i : goal.invariant-loop-i
invariant-loop-i l = (j : ℕ) → j < l.i → has l.other j ≡ true → has l.mask j ≡ true
