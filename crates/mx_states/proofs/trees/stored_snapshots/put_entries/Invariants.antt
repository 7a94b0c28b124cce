use Rattle.std.proofs.Common.{◌≡◌, ◌≤◌, ℕ, drop, length}
use Rattle.std.specs.FinMap.Entries.{find}
use Rattle.std.specs.Ordering.{nat_cmp}
use Rattle.mx_states.specs.KeyTrees.{AreLower, IsLonger, at_key}
use Rattle.mx_states.proofs.trees.stored_snapshots.put_entries.Given as goal

-- the tree has the entries from a place on
abbrev pub invariant-loop-left : goal.invariant-loop-left
invariant-loop-left l = record {
  in_range : l.left ≤ length l.entries;
  lower : AreLower l.trees.items;
  more : IsLonger l.initial.trees.items l.trees.items;
  tree : l.made ≤ length l.trees.items;
  put : (key : ℕ) → at_key l.trees.items l.made key ≡ find nat_cmp key (drop l.left l.entries);
}

abbrev pub decreases-loop-left : goal.decreases-loop-left
decreases-loop-left l = l.left
