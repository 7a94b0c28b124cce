use Rattle.std.proofs.Common.{◌≡◌, ◌==◌, ◌&&◌, ℕ, nat_lt, slice_index}
use Rattle.std.specs.BTreeSet.{contains}
use Rattle.std.specs.Ordering.{nat_cmp}
use Rattle.mx_orders.proofs.readiness.ready_at_first.Given as goal

abbrev pub invariant-loop-rank : goal.invariant-loop-rank
invariant-loop-rank l = (p : ℕ) → contains nat_cmp l.ready p ≡ (nat_lt p l.rank && (slice_index l.awaited p == 0))
