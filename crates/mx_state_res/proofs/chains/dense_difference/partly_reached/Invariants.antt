use Rattle.std.proofs.Common.{◌≡◌, ◌≤◌, length, reverse}
use Rattle.mx_state_res.specs.ChainDifference.{cites}
use Rattle.mx_state_res.specs.RowSets.{is_reached, AreCounted}
use Rattle.mx_state_res.proofs.RowWalkLemmas.{IsRowWalk}
use Rattle.mx_state_res.proofs.chains.dense_difference.partly_reached.Given as goal

abbrev pub invariant-loop-row : goal.invariant-loop-row
invariant-loop-row l = record {
  states : l.rows.states ≡ l.fn.rows.states;
  counted : AreCounted l.rows.states l.rows.all l.rows.sets.items l.rows.unsettled;
  len : length l.rows.sets.items ≤ length l.fn.rows.sets.items;
  walk : IsRowWalk (cites l.graph) l.fn.rows.states (is_reached l.fn.rows.sets.items) l.rows.sets.items (reverse l.found.items);
}

abbrev pub decreases-loop-row : goal.decreases-loop-row
decreases-loop-row l = length l.rows.sets.items
