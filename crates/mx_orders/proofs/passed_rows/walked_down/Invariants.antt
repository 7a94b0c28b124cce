use Rattle.std.proofs.Common.{reverse}
use Rattle.std.specs.BTreeSet.{contains}
use Rattle.std.specs.Ordering.{nat_cmp}
use Rattle.mx_graph.proofs.WalkLemmas.{above}
use Rattle.mx_orders.proofs.PassedLemmas.{IsPassingDown}
use Rattle.mx_orders.proofs.passed_rows.walked_down.Given as goal

abbrev pub invariant-loop-row : goal.invariant-loop-row
invariant-loop-row l = IsPassingDown l.graph l.least (contains nat_cmp l.fn.waiting) (reverse l.found.items) (contains nat_cmp l.waiting)

abbrev pub decreases-loop-row : goal.decreases-loop-row
decreases-loop-row l = above l.waiting.keys
