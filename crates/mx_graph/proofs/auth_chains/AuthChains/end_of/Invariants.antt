use Rattle.std.proofs.Common.{◌≡◌, ℕ, nat_lt, take}
use Rattle.mx_graph.specs.AuthChains.{kept_at, some_has, AreKept}
use Rattle.mx_graph.proofs.auth_chains.AuthChains.end_of.Given as goal

-- of those so far
abbrev pub invariant-loop-event : goal.invariant-loop-event
invariant-loop-event l = record {
  kept : AreKept (kept_at l.self.reached.items) (take l.event-index l.events);
  rows : (p : ℕ) → nat_lt p l.end ≡ some_has (kept_at l.self.reached.items) (take l.event-index l.events) l.chain p;
}
