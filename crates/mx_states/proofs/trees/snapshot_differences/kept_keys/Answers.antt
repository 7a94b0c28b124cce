use Rattle.std.proofs.Common.{◌≡◌, ◌+◌, ℕ, take, [], ◌++◌, ◌∷◌, ap, sym, subst, ◌∙◌, arith}
use Rattle.std.proofs.lemmas.List.{take_more, take_all}
use Rattle.mx_states.specs.SnapshotEntries.{DifferAt, snapshot}
use Rattle.mx_states.specs.StoredSnapshots.{snapshots_of}
use Rattle.mx_states.proofs.SnapshotDifferenceLemmas.{HasKept, kept_more}
use Rattle.mx_states.proofs.trees.snapshot_differences.kept_keys.Goals as goal

pub loop-key-preserved : goal.loop-key-preserved
loop-key-preserved c =
    let maps = snapshots_of c.args.trees.now c.args.stored.now in
    let P : ℕ → Type 0 = λ key. DifferAt key (snapshot maps c.args.first) (snapshot maps c.args.second) in
    let all = c.args.candidates.now in
    let x = c.key-item.result in
    let more = kept_more P (take c.loop-key.key-index all) c.loop-key.keys.items x c.differ_at-wanted.result c.loop-key.invariant c.differ_at-wanted.ensures in
    let seen : take c.loop-key.key-index all ++ x ∷ [] ≡ take (c.loop-key.key-index + 1) all = ap (λ y. take c.loop-key.key-index all ++ y ∷ []) c.key-item.is ∙ sym (take_more all c.loop-key.key-index x (omega arith)) in
    subst (λ s. HasKept P s c.push_if.new.keys.items) seen (subst (HasKept P (take c.loop-key.key-index all ++ x ∷ [])) (sym c.in_ok-push_if.ensures) more)

pub returns : goal.returns
returns c =
    let maps = snapshots_of c.args.trees.now c.args.stored.now in
    let P : ℕ → Type 0 = λ key. DifferAt key (snapshot maps c.args.first) (snapshot maps c.args.second) in
    (subst (λ s. HasKept P s c.loop-key.keys.items) (take_all c.loop-key.key-index c.args.candidates.now c.loop-key-test.false) c.loop-key.invariant).exact
