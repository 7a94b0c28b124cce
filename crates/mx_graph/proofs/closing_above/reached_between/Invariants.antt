use Rattle.std.proofs.Common.{◌≡◌, ◌-◌, length, reverse}
use Rattle.mx_graph.specs.Closing.{IsMarked}
use Rattle.mx_graph.specs.Edges.{cited}
use Rattle.mx_graph.proofs.closing_above.reached_between.Given as goal

abbrev pub invariant-loop-left : goal.invariant-loop-left
invariant-loop-left l = record {
  len : length l.marks.items ≡ l.bound - l.least;
  walk : IsMarked (cited l.edges) l.starts l.least l.left l.marks.items (reverse l.found.items);
}

abbrev pub decreases-loop-left : goal.decreases-loop-left
decreases-loop-left l = l.left
