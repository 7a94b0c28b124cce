use Rattle.std.proofs.Common.{subst}
use Rattle.mx_graph.specs.Graph.{IsSound}
use Rattle.mx_graph.proofs.IndexLemmas.{indexed-sound}
use Rattle.mx_graph.proofs.graphs.Graph.len.Goals as goal

pub returns-clause-sound : goal.returns-clause-sound
returns-clause-sound c = subst IsSound c.self.view_is (indexed-sound _ _ _ _ _ _ _ c.self.invariant)
