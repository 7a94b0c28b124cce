use Rattle.std.proofs.Common.{◌≡◌, ◌==◌, ◌&&◌, ◌||◌, ℕ, slice_index, take}
use Rattle.std.specs.BTreeSet.{contains}
use Rattle.std.specs.Ordering.{nat_cmp}
use Rattle.mx_graph.specs.Record.{is_in}
use Rattle.mx_orders.proofs.readiness.add_ready.Given as goal

abbrev pub invariant-loop-rank : goal.invariant-loop-rank
invariant-loop-rank l = (p : ℕ)
    → contains nat_cmp l.ready p ≡ (contains nat_cmp l.fn.ready p || (is_in (take l.rank-index l.ranks) p && (slice_index l.awaited p == 0)))
