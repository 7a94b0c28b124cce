use Rattle.std.proofs.Common.{◌≡◌, ◌≤◌, length}
use Rattle.mx_states.specs.KeyTrees.{at, at_key}
use Rattle.mx_states.proofs.trees.key_trees.event_at.Given as goal

-- what is looked up stands at the place of the tree that is reached
abbrev pub invariant-loop-place : goal.invariant-loop-place
invariant-loop-place l = record {
  some : 1 ≤ l.place;
  under : l.under ≤ length l.trees;
  same : at l.trees l.under l.place ≡ at_key l.trees l.fn.tree l.fn.key;
}

abbrev pub decreases-loop-place : goal.decreases-loop-place
decreases-loop-place l = l.place
