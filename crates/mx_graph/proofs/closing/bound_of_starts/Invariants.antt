use Rattle.std.proofs.Common.{◌≤◌, ◌^◌, take}
use Rattle.mx_graph.specs.Closing.{AreCitedBelow}
use Rattle.mx_graph.specs.Edges.{cited}
use Rattle.mx_graph.proofs.closing.bound_of_starts.Given as goal

-- those so far
abbrev pub invariant-loop-start : goal.invariant-loop-start
invariant-loop-start l = record {
  few : l.bound ≤ 2 ^ 32;
  within : AreCitedBelow (cited l.edges) (take l.start-index l.starts) l.bound;
}
