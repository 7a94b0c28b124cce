use Rattle.std.proofs.Common.{◌≡◌, ◌-◌, ℕ, slice_index, take}
use Rattle.mx_orders.specs.Ranks.{times}
use Rattle.mx_orders.proofs.readiness.lower.Given as goal

abbrev pub invariant-loop-rank : goal.invariant-loop-rank
invariant-loop-rank l = (p : ℕ) → slice_index l.awaited p ≡ slice_index l.fn.awaited p - times p (take l.rank-index l.followers)
