use Rattle.std.proofs.Common.{◌≡◌, ◌&&◌, ◌||◌, ℕ, nat_le, take}
use Rattle.std.specs.BTreeSet.{contains}
use Rattle.std.specs.Ordering.{nat_cmp}
use Rattle.mx_graph.specs.Record.{is_in}
use Rattle.mx_orders.proofs.passed_rows.wait_for.Given as goal

abbrev pub invariant-loop-row : goal.invariant-loop-row
invariant-loop-row l = (p : ℕ)
    → contains nat_cmp l.waiting p ≡ (contains nat_cmp l.fn.waiting p || (is_in (take l.row-index l.rows) p && nat_le l.least p))
