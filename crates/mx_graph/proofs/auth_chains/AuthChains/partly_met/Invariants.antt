use Rattle.std.proofs.Common.{◌≡◌, ℕ, take}
use Rattle.std.specs.List.{list_any}
use Rattle.mx_graph.specs.AuthChains.{is_partly_met, kept_at, place_at}
use Rattle.mx_graph.specs.Record.{is_in}
use Rattle.mx_graph.proofs.auth_chains.AuthChains.partly_met.Given as goal

-- of those so far
abbrev pub invariant-loop-row : goal.invariant-loop-row
invariant-loop-row l = (p : ℕ) → is_in l.found.items p ≡ list_any (λ e. is_partly_met (place_at l.self.places.items) (kept_at l.self.reached.items) l.shared l.apart e p) (take l.row-index l.met)
