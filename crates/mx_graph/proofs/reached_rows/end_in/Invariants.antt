use Rattle.std.proofs.Common.{◌≡◌, ℕ, nat_lt, take}
use Rattle.mx_graph.specs.AuthChains.{has_row}
use Rattle.mx_graph.proofs.reached_rows.end_in.Given as goal

-- of those so far
abbrev pub invariant-loop-own : goal.invariant-loop-own
invariant-loop-own l = (p : ℕ) → nat_lt p l.end ≡ has_row (take l.own-index l.reached) l.chain p
