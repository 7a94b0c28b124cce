use Rattle.std.proofs.Common.{take}
use Rattle.mx_graph.specs.AuthChains.{kept_at, AreKept}
use Rattle.mx_graph.proofs.auth_chains.AuthChains.are_kept.Given as goal

abbrev pub invariant-loop-event : goal.invariant-loop-event
invariant-loop-event l = AreKept (kept_at l.self.reached.items) (take l.event-index l.events)
