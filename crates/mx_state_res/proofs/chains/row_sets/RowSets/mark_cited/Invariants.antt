use Rattle.std.proofs.Common.{◌≡◌, ◌||◌, ◌&&◌, ℕ, length, take}
use Rattle.mx_graph.specs.Record.{is_in}
use Rattle.mx_state_res.specs.RowSets.{has_state, is_reached, AreCounted}
use Rattle.mx_state_res.proofs.chains.row_sets.RowSets.mark_cited.Given as goal

abbrev pub invariant-loop-other : goal.invariant-loop-other
invariant-loop-other l = record {
  states : l.self.states ≡ l.fn.self.states;
  all : l.self.all ≡ l.fn.self.all;
  len : length l.self.sets.items ≡ length l.fn.self.sets.items;
  counted : AreCounted l.self.states l.self.all l.self.sets.items l.self.unsettled;
  reached : (p i : ℕ) → is_reached l.self.sets.items p i ≡ (is_reached l.fn.self.sets.items p i || (is_in (take l.other-index l.cited) p && has_state l.states i));
}
