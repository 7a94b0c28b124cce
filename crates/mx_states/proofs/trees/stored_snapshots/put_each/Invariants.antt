use Rattle.std.proofs.Common.{◌≡◌, ◌≤◌, ℕ, drop, length}
use Rattle.std.specs.Prelude.{unwrap_or}
use Rattle.std.specs.FinMap.Entries.{find}
use Rattle.std.specs.Ordering.{nat_cmp}
use Rattle.mx_states.specs.KeyTrees.{AreLower, IsLonger, at_key}
use Rattle.mx_states.proofs.trees.stored_snapshots.put_each.Given as goal

-- the tree has the changes from a place on
abbrev pub invariant-loop-left : goal.invariant-loop-left
invariant-loop-left l = record {
  in_range : l.left ≤ length l.changes;
  lower : AreLower l.trees.items;
  more : IsLonger l.initial.trees.items l.trees.items;
  tree : l.made ≤ length l.trees.items;
  put : (key : ℕ) → at_key l.trees.items l.made key ≡ unwrap_or (find nat_cmp key (drop l.left l.changes)) (at_key l.initial.trees.items l.fn.tree key);
}

abbrev pub decreases-loop-left : goal.decreases-loop-left
decreases-loop-left l = l.left
