use Rattle.std.proofs.Common.{take}
use Rattle.mx_states.specs.SnapshotEntries.{DifferAt, snapshot}
use Rattle.mx_states.specs.StoredSnapshots.{snapshots_of}
use Rattle.mx_states.proofs.SnapshotDifferenceLemmas.{HasKept}
use Rattle.mx_states.proofs.trees.snapshot_differences.kept_keys.Given as goal

abbrev pub invariant-loop-key : goal.invariant-loop-key
invariant-loop-key l = HasKept (λ key. DifferAt key (snapshot (snapshots_of l.trees l.stored) l.first) (snapshot (snapshots_of l.trees l.stored) l.second)) (take l.key-index l.candidates) l.keys.items
