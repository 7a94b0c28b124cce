use Rattle.std.proofs.Common.{◌≡◌, sym, subst, Vec, Global, ℕ, Ok, Err, Result}
use Rattle.std.specs.Prelude.{IfOk}
use Rattle.mx_states.specs.SnapshotEntries.{snapshot}
use Rattle.mx_states.specs.StoredSnapshots.{snapshots_of}
use Rattle.mx_states.proofs.SnapshotEntryLemmas.{Sorted}
use Rattle.mx_states.proofs.StoredLemmas.{snapshots-sorted}
use Rattle.mx_states.proofs.trees.Snapshots.entries.Goals as goal

ok_sorted : {E : Type 0} (r : Result (Vec (ℕ × ℕ) Global) E) (m : _) → IfOk r (λ v. v.items ≡ m) → Sorted m → IfOk r (λ v. Sorted v.items)
ok_sorted (Ok v) m e h = subst Sorted (sym e) h
ok_sorted (Err e) m f h = tt

pub returns-clause-sorted : goal.returns-clause-sorted
returns-clause-sorted c =
    ok_sorted c.entries_at.result (snapshot (snapshots_of c.deref.result.now c.deref-2.result.now) c.index.result) c.entries_at.ensures (snapshots-sorted c.deref.result.now c.deref-2.result.now c.index.result)
