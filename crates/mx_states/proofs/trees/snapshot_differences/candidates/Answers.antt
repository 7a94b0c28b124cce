use Rattle.std.proofs.Common.{◌≡◌, ℕ, List, length, ◌++◌, ap, sym, subst, ◌∙◌, ◌⊎◌, arith}
use Rattle.std.specs.Prelude.{Contains}
use Rattle.std.specs.Map.{keys_of}
use Rattle.mx_states.specs.SnapshotEntries.{AgreeAt, snapshot}
use Rattle.mx_states.specs.StoredSnapshots.{snapshots_of}
use Rattle.mx_states.proofs.StoredLemmas.{step-at}
use Rattle.mx_states.proofs.SnapshotDifferenceLemmas.{IsGathered, gathered_none, gathered_delta, gathered_whole, pair_sum, pair_in_range}
use Rattle.mx_states.proofs.trees.snapshot_differences.candidates.Goals as goal

pub loop-one-init : goal.loop-one-init
loop-one-init c = record {
  one_in_range = c.requires.first_in_range;
  other_in_range = c.requires.second_in_range;
  gathered = subst (IsGathered (snapshots_of c.args.trees.now c.args.stored.now) c.args.first c.args.second c.args.first c.args.second) (sym c.new-keys.ensures.items) (gathered_none _ _ _);
}

-- all keys of both whole maps
pub returns-in-None : goal.returns-in-None
returns-in-None c =
    let all = c.args.stored.now in
    let maps = snapshots_of c.args.trees.now all in
    let l = c.loop-one.invariant in
    let is : c.push_keys-in-None.new.keys.items ≡ (c.loop-one.keys.items ++ keys_of (snapshot maps c.max-later.result)) ++ keys_of (snapshot maps c.min-earlier.result) =
    c.in_ok-push_keys-in-None-2.ensures
    ∙ ap (λ ks. ks ++ keys_of c.deref-in-None.result.now) (c.in_ok-push_keys-in-None.ensures ∙ ap (λ m. c.loop-one.keys.items ++ keys_of m) (c.deref.ensures.value ∙ c.in_ok-entries-in-None.ensures))
    ∙ ap (λ m. (c.loop-one.keys.items ++ keys_of (snapshot maps c.max-later.result)) ++ keys_of m) (c.deref-in-None.ensures.value ∙ c.in_ok-others-in-None.ensures) in
    let P : List ℕ → Type 0 = λ ks. (key : ℕ) → Contains ks key ⊎ AgreeAt key (snapshot maps c.args.first) (snapshot maps c.args.second) in
    subst P (sym is) (gathered_whole maps c.args.first c.args.second c.loop-one.one c.loop-one.other c.max-later.result c.min-earlier.result c.loop-one.keys.items l.gathered c.max-later.ensures c.min-earlier.ensures)

pub loop-one-smaller : goal.loop-one-smaller
loop-one-smaller c =
    let all = c.args.stored.now in
    let l = c.loop-one.invariant in
    let pair = pair_in_range (length all) c.loop-one.one c.loop-one.other c.max-later.result c.min-earlier.result c.max-later.ensures c.min-earlier.ensures l.one_in_range l.other_in_range in
    let here = step-at c.args.trees.now all c.max-later.result c.index-stored-later.result c.in-Some.parent c.in-Some.changes.now c.requires.sound pair.later_is c.index-stored-later.is c.in-Some.ensures in
    omega (arith, here.below, pair_sum c.loop-one.one c.loop-one.other c.max-later.result c.min-earlier.result c.max-later.ensures c.min-earlier.ensures)

-- up the later one's delta
pub loop-one-preserved : goal.loop-one-preserved
loop-one-preserved c =
    let all = c.args.stored.now in
    let maps = snapshots_of c.args.trees.now all in
    let l = c.loop-one.invariant in
    let pair = pair_in_range (length all) c.loop-one.one c.loop-one.other c.max-later.result c.min-earlier.result c.max-later.ensures c.min-earlier.ensures l.one_in_range l.other_in_range in
    let here = step-at c.args.trees.now all c.max-later.result c.index-stored-later.result c.in-Some.parent c.in-Some.changes.now c.requires.sound pair.later_is c.index-stored-later.is c.in-Some.ensures in
    let is : c.push_keys-in-Some.new.keys.items ≡ c.loop-one.keys.items ++ keys_of c.in-Some.changes.now = c.in_ok-push_keys-in-Some.ensures in
    record {
      one_in_range = pair.earlier_is;
      other_in_range = omega (arith, here.below, pair.later_is);
      gathered = subst (IsGathered maps c.args.first c.args.second c.min-earlier.result c.in-Some.parent) (sym is)
          (gathered_delta maps c.args.first c.args.second c.loop-one.one c.loop-one.other c.max-later.result c.min-earlier.result c.in-Some.parent c.in-Some.changes.now c.loop-one.keys.items l.gathered c.max-later.ensures c.min-earlier.ensures here.meant);
    }
