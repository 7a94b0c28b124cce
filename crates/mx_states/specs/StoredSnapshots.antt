-- For proofs and private clauses alone.
-- What stored snapshots mean.
use Rattle.std.specs.Prelude.{◌≡◌, ℕ, zero, suc, ◌+◌, ◌<◌, ◌≤◌, ◌^◌, Option, Some, None, List, [], ◌∷◌, slice_get, map, length, IfSome}
use Rattle.mx_states.specs.declared.trees.key_trees.KeyTree.{KeyTree}
use Rattle.mx_states.specs.declared.trees.stored_snapshots.Origin.{Origin}
use Rattle.mx_states.specs.declared.trees.stored_snapshots.Origin.TheVariants.{Entries, Changes}
use Rattle.mx_states.specs.declared.trees.stored_snapshots.Stored.{Stored}
use Rattle.mx_states.specs.KeyTrees.{AreLower, at_key}
use Rattle.mx_states.specs.SnapshotEntries.{changed, snapshot}

-- an entry before others, where there is an event
abbrev pub with_entry : ℕ → Option ℕ → List (ℕ × ℕ) → List (ℕ × ℕ)
with_entry key None entries = entries
with_entry key (Some event) entries = (key, event) ∷ entries

-- the entries at so many keys from one on
abbrev pub listed : (ℕ → Option ℕ) → ℕ → ℕ → List (ℕ × ℕ)
listed events from zero = []
listed events from (suc count) = with_entry from (events from) (listed events (from + 1) count)

abbrev pub snapshot_of : List KeyTree → Stored → List (ℕ × ℕ)
snapshot_of trees s = listed (at_key trees s.tree) 0 s.keys

abbrev pub snapshots_of : List KeyTree → List Stored → List (List (ℕ × ℕ))
snapshots_of trees all = map (snapshot_of trees) all

-- how many trees there are with the last of them
abbrev pub trees_at : List Stored → ℕ
trees_at [] = 0
trees_at (s ∷ []) = s.trees
trees_at (s ∷ t ∷ all) = trees_at (t ∷ all)

-- the earlier snapshot that it is made from, and the changes to it
abbrev pub step_in : Origin → Option (ℕ × List (ℕ × Option ℕ))
step_in Entries = None
step_in (Changes parent changes) = Some (parent, changes.items)

abbrev pub step_of : Stored → Option (ℕ × List (ℕ × Option ℕ))
step_of s = step_in s.origin

-- it has no key from `keys` on, it is what its changes make of an earlier snapshot, and earlier ones need no more trees
pub record IsSound (trees : List KeyTree) (all : List Stored) (place : ℕ) (s : Stored) : Type 0 where
  pub tree : s.tree ≤ s.trees
  pub within : s.trees ≤ length trees
  pub few : s.keys ≤ 2 ^ 32
  pub bounded : (key : ℕ) → s.keys ≤ key → at_key trees s.tree key ≡ None
  pub step : IfSome (step_of s) (λ step. (step.0 < place) × (snapshot_of trees s ≡ changed step.1 (snapshot (snapshots_of trees all) step.0)))
  pub earlier : (other : ℕ) → other < place → IfSome (slice_get all other) (λ t. t.trees ≤ s.trees)

pub record AllSound (trees : List KeyTree) (all : List Stored) : Type 0 where
  pub lower : AreLower trees
  pub each : (place : ℕ) → IfSome (slice_get all place) (IsSound trees all place)
