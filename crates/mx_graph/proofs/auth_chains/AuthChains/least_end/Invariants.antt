use Rattle.std.proofs.Common.{◌≡◌, ◌&&◌, ℕ, nat_lt, take}
use Rattle.mx_graph.specs.AuthChains.{all_have, kept_at}
use Rattle.mx_graph.proofs.auth_chains.AuthChains.least_end.Given as goal

-- of those so far
abbrev pub invariant-loop-others : goal.invariant-loop-others
invariant-loop-others l = (p : ℕ) → nat_lt p l.least ≡ (nat_lt p l.fn.end && all_have (kept_at l.self.reached.items) (take l.others-index l.apart) l.chain p)
