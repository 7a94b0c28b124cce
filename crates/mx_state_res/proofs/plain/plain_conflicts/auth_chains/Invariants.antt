use Rattle.std.proofs.Common.{◌≡◌, map, take}
use Rattle.std.specs.List.{All}
use Rattle.mx_graph.specs.Edges.{Rises}
use Rattle.mx_graph.specs.Graph.{auth_chain}
use Rattle.mx_graph.specs.StateMap.{events_of}
use Rattle.mx_state_res.proofs.plain.plain_conflicts.auth_chains.Given as goal

-- the chains so far
abbrev pub invariant-loop-state : goal.invariant-loop-state
invariant-loop-state l = record {
  chains : map (λ c. c.items) l.chains.items ≡ map (λ s. auth_chain l.graph (events_of s.now)) (take l.state-index l.states);
  rises : All (λ c. Rises c.items) l.chains.items;
}
