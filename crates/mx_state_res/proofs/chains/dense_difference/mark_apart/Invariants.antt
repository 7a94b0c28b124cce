use Rattle.std.proofs.Common.{◌≡◌, ◌<◌, ◌≤◌, ◌||◌, ℕ, [], length, map, slice_index_or}
use Rattle.mx_state_res.specs.ChainDifference.{is_cited}
use Rattle.mx_state_res.specs.RowSets.{is_reached, AreCounted}
use Rattle.mx_state_res.proofs.chains.dense_difference.mark_apart.Given as goal

-- the states below i are marked, and the others are as they were
abbrev pub invariant-loop-i : goal.invariant-loop-i
invariant-loop-i l = record {
  states : l.rows.states ≡ l.fn.rows.states;
  all : l.rows.all ≡ l.fn.rows.all;
  len : length l.rows.sets.items ≡ length l.fn.rows.sets.items;
  counted : AreCounted l.rows.states l.rows.all l.rows.sets.items l.rows.unsettled;
  below : (p j : ℕ) → j < l.i → is_reached l.rows.sets.items p j ≡ (is_reached l.fn.rows.sets.items p j || is_cited l.graph (slice_index_or (map (λ others. others.items) l.apart) j []) p);
  others : (p j : ℕ) → l.i ≤ j → is_reached l.rows.sets.items p j ≡ is_reached l.fn.rows.sets.items p j;
}
