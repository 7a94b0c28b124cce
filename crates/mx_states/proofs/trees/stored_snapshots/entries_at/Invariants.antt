use Rattle.std.proofs.Common.{◌≡◌, ◌≤◌, ◌-◌, ◌++◌}
use Rattle.mx_states.specs.KeyTrees.{at_key}
use Rattle.mx_states.specs.StoredSnapshots.{listed, snapshot_of}
use Rattle.mx_states.proofs.trees.stored_snapshots.entries_at.Given as goal

-- the entries so far, and those at the keys that are left
abbrev pub invariant-loop-number : goal.invariant-loop-number
invariant-loop-number l = record {
  in_range : l.number ≤ l.snapshot.keys;
  so_far : l.entries.items ++ listed (at_key l.trees l.snapshot.tree) l.number (l.snapshot.keys - l.number) ≡ snapshot_of l.trees l.snapshot;
}

abbrev pub decreases-loop-number : goal.decreases-loop-number
decreases-loop-number l = l.snapshot.keys - l.number
