use Rattle.std.proofs.Common.{◌≡◌, ◌||◌, ◌&&◌, ℕ, take}
use Rattle.mx_graph.specs.Record.{is_in}
use Rattle.mx_state_res.specs.Masks.{has, waits, is_there, AreKept}
use Rattle.mx_state_res.proofs.chains.chain_walks.ChainWalk.mark_all.Given as goal

abbrev pub invariant-loop-event : goal.invariant-loop-event
invariant-loop-event l = record {
  states : l.self.states ≡ l.fn.self.states;
  starts : l.self.starts ≡ l.fn.self.starts;
  kept : AreKept l.self.states l.self.masks l.self.unsettled;
  there : (p : ℕ) → is_there l.self.masks p ≡ (is_there l.fn.self.masks p || is_in (take l.event-index l.events) p);
  marked : (p i : ℕ) → waits l.self.masks p i ≡ (waits l.fn.self.masks p i || (is_in (take l.event-index l.events) p && has l.mask i));
}
