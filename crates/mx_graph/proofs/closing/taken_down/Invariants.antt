use Rattle.std.proofs.Common.{reverse}
use Rattle.std.specs.Ordering.{nat_cmp}
use Rattle.std.specs.BTreeSet.{contains}
use Rattle.mx_graph.specs.Edges.{cited}
use Rattle.mx_graph.proofs.WalkLemmas.{above, IsWalk}
use Rattle.mx_graph.proofs.closing.taken_down.Given as goal

abbrev pub invariant-loop-event : goal.invariant-loop-event
invariant-loop-event l = IsWalk (cited l.edges) (contains nat_cmp l.fn.waiting) (reverse l.found.items) (contains nat_cmp l.waiting)

abbrev pub decreases-loop-event : goal.decreases-loop-event
decreases-loop-event l = above l.waiting.keys
