use Rattle.std.proofs.Common.{◌≡◌, ◌<◌, ℕ, Bool, true, length, take}
use Rattle.mx_graph.specs.AuthChains.{kept_at, place_at, AreChains, AreMet}
use Rattle.mx_graph.specs.Edges.{cited}
use Rattle.mx_graph.specs.Record.{is_in}
use Rattle.mx_graph.proofs.auth_chains.AuthChains.cite.Given as goal

abbrev pub invariant-loop-event : goal.invariant-loop-event
invariant-loop-event l = record {
  len : length l.self.places.items ≡ length l.fn.self.places.items;
  reached : l.self.reached ≡ l.fn.self.reached;
  chains : (meets : ℕ → ℕ → Bool) → AreMet (cited l.edges) meets → AreChains meets (place_at l.fn.self.places.items) (kept_at l.fn.self.reached.items) → AreChains meets (place_at l.self.places.items) (kept_at l.fn.self.reached.items);
  cited : (q : ℕ) → is_in (take l.event-index l.events) q ≡ true → q < length l.fn.self.places.items → (place_at l.self.places.items q).is_cited ≡ true;
}
