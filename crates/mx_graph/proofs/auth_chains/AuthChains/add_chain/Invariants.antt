use Rattle.std.proofs.Common.{◌≡◌, ◌≤◌, ◌+◌, ◌&&◌, ◌||◌, ℕ, IfSome, option_map}
use Rattle.std.specs.Option.{unwrap_or}
use Rattle.mx_graph.specs.AuthChains.{has_passed, is_between, place_at}
use Rattle.mx_graph.specs.Record.{is_in}
use Rattle.mx_graph.proofs.auth_chains.AuthChains.add_chain.Given as goal

-- the next row is one of them, and those after it are there
abbrev pub invariant-loop-next : goal.invariant-loop-next
invariant-loop-next l = record {
  next : IfSome l.next (λ b. (l.first ≤ b) × (b ≤ l.fn.last) × ((place_at l.self.places.items b).chain ≡ (place_at l.self.places.items l.fn.last).chain));
  passed : (p : ℕ) → is_in l.found.items p ≡ (is_in l.fn.found.items p || (is_between (place_at l.self.places.items) l.fn.last l.first p && has_passed l.next p));
}

abbrev pub decreases-loop-next : goal.decreases-loop-next
decreases-loop-next l = unwrap_or (option_map (λ b. b + 1) l.next) 0
