use Rattle.std.proofs.Common.{take}
use Rattle.mx_graph.specs.AuthChains.{kept_at, place_at, AreDistinct, AreMetToo}
use Rattle.mx_graph.proofs.auth_chains.AuthChains.add_met.Given as goal

-- of those so far
abbrev pub invariant-loop-event : goal.invariant-loop-event
invariant-loop-event l = record {
  met : AreMetToo (place_at l.self.places.items) (kept_at l.self.reached.items) (take l.event-index l.events) l.fn.met.items l.met.items;
  distinct : AreDistinct l.fn.met.items → AreDistinct l.met.items;
}
