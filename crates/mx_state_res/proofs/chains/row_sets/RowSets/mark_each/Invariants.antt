use Rattle.std.proofs.Common.{◌≡◌, ◌||◌, ◌&&◌, ℕ, length, take}
use Rattle.mx_state_res.specs.ChainDifference.{is_cited}
use Rattle.mx_state_res.specs.RowSets.{has_state, is_reached, AreCounted}
use Rattle.mx_state_res.proofs.chains.row_sets.RowSets.mark_each.Given as goal

abbrev pub invariant-loop-event : goal.invariant-loop-event
invariant-loop-event l = record {
  states : l.self.states ≡ l.fn.self.states;
  all : l.self.all ≡ l.fn.self.all;
  len : length l.self.sets.items ≡ length l.fn.self.sets.items;
  counted : AreCounted l.self.states l.self.all l.self.sets.items l.self.unsettled;
  reached : (p i : ℕ) → is_reached l.self.sets.items p i ≡ (is_reached l.fn.self.sets.items p i || (is_cited l.graph (take l.event-index l.events) p && has_state l.states i));
}
