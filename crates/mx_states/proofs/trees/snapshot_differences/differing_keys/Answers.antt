use Rattle.std.proofs.Common.{◌≡◌, ℕ, sym, subst}
use Rattle.std.specs.Prelude.{Contains, ◌↔◌}
use Rattle.std.specs.List.{dedup}
use Rattle.std.specs.List.Sorted.{IsStrictlyIncreasing}
use Rattle.std.proofs.lemmas.List.Filters.{dedup_is}
use Rattle.std.proofs.lemmas.Map.Keys.{IsStrictlyIncreasing-dedup}
use lib.Dec.{eqb}
use Rattle.mx_states.specs.SnapshotEntries.{DifferAt, snapshot}
use Rattle.mx_states.specs.StoredSnapshots.{snapshots_of}
use Rattle.mx_states.proofs.SnapshotDifferenceLemmas.{kept_in_order, contained_where_differing}
use Rattle.mx_states.proofs.trees.snapshot_differences.differing_keys.Goals as goal

pub returns-clause-exact : goal.returns-clause-exact
returns-clause-exact c =
    let maps = snapshots_of c.args.trees.now c.args.stored.now in
    let s = snapshot maps c.args.first in
    let t = snapshot maps c.args.second in
    let P : ℕ → Type 0 = λ key. DifferAt key s t in
    let sorted = c.sort_unstable.new.self.items in
    let seen = c.in_ok-candidates.candidates.items in
    let covers : (key : ℕ) → P key → Contains seen key = contained_where_differing seen s t c.in_ok-candidates.ensures in
    let kept : (key : ℕ) → Contains c.in_ok-keys.keys.items key ↔ (Contains seen key × P key) =
    subst (λ l. (key : ℕ) → Contains c.in_ok-keys.keys.items key ↔ (Contains l key × P key)) c.deref.ensures.value c.in_ok-keys.ensures in
    let is : c.dedup.new.self.items ≡ dedup eqb sorted = dedup_is eqb sorted c.dedup.new.self.items c.dedup.ensures.filtered in
    subst (λ l. (key : ℕ) → Contains l key ↔ P key) (sym is) (kept_in_order P seen c.in_ok-keys.keys.items sorted kept covers c.sort_unstable.ensures.permutation)

pub returns-clause-rising : goal.returns-clause-rising
returns-clause-rising c =
    let sorted = c.sort_unstable.new.self.items in
    let is : c.dedup.new.self.items ≡ dedup eqb sorted = dedup_is eqb sorted c.dedup.new.self.items c.dedup.ensures.filtered in
    subst IsStrictlyIncreasing (sym is) (IsStrictlyIncreasing-dedup sorted c.sort_unstable.ensures.sorted)
