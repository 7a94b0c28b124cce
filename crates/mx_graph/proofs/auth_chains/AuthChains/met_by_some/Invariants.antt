use Rattle.std.proofs.Common.{take}
use Rattle.mx_graph.specs.AuthChains.{kept_at, place_at, AreDistinct, AreMetBySome}
use Rattle.mx_graph.proofs.auth_chains.AuthChains.met_by_some.Given as goal

-- of those so far
abbrev pub invariant-loop-others : goal.invariant-loop-others
invariant-loop-others l = record {
  met : AreMetBySome (place_at l.self.places.items) (kept_at l.self.reached.items) (take l.others-index l.apart) l.met.items;
  distinct : AreDistinct l.met.items;
}
