use Rattle.std.proofs.Common.{◌<◌, ◌+◌, length}
use Rattle.mx_states.specs.StoredSnapshots.{snapshots_of}
use Rattle.mx_states.proofs.SnapshotDifferenceLemmas.{IsGathered}
use Rattle.mx_states.proofs.trees.snapshot_differences.candidates.Given as goal

abbrev pub invariant-loop-one : goal.invariant-loop-one
invariant-loop-one l = record {
  one_in_range : l.one < length l.stored;
  other_in_range : l.other < length l.stored;
  gathered : IsGathered (snapshots_of l.trees l.stored) l.first l.second l.one l.other l.keys.items;
}

abbrev pub decreases-loop-one : goal.decreases-loop-one
decreases-loop-one l = l.one + l.other
