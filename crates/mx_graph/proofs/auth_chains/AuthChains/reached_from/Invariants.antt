use Rattle.std.proofs.Common.{take}
use Rattle.mx_graph.specs.AuthChains.{kept_at, place_at, AreDistinct, AreReached}
use Rattle.mx_graph.proofs.auth_chains.AuthChains.reached_from.Given as goal

-- of those so far
abbrev pub invariant-loop-event : goal.invariant-loop-event
invariant-loop-event l = record {
  reached : AreReached (place_at l.self.places.items) (kept_at l.self.reached.items) (take l.event-index l.events) l.found.items;
  distinct : AreDistinct l.found.items;
}
