-- For proofs and private clauses alone.
-- A map as the list of its entries in the order of their keys, and what changes make of it.
use Rattle.std.specs.Prelude.{◌≡◌, ◌≢◌, ℕ, ◌<◌, ◌≤◌, List, [], ◌∷◌, Option, Some, None, not, length, slice_index_or}
use Rattle.std.specs.List.{HoldsAt, AllWithin}
use Rattle.std.specs.declared.cmp.Ordering.TheVariants.{Less, Greater}
use Rattle.std.specs.Ordering.{nat_cmp, eq_by_cmp}
use Rattle.std.specs.FinMap.Entries.{put, where_key, find}

-- the map with a value put at a key, or, for None, with no entry there
abbrev pub change : ℕ → Option ℕ → List (ℕ × ℕ) → List (ℕ × ℕ)
change key (Some value) entries = put nat_cmp key value entries
change key None entries = where_key nat_cmp (λ other. not (eq_by_cmp nat_cmp key other)) entries

-- the map with all changes, of which at each key the first counts
abbrev pub changed : List (ℕ × Option ℕ) → List (ℕ × ℕ) → List (ℕ × ℕ)
changed [] entries = entries
changed (c ∷ cs) entries = change c.0 c.1 (changed cs entries)

-- the map of the snapshot with this number
abbrev pub snapshot : List (List (ℕ × ℕ)) → ℕ → List (ℕ × ℕ)
snapshot all number = slice_index_or all number []

-- two maps have the same value at a key, or both none
abbrev pub AgreeAt : ℕ → List (ℕ × ℕ) → List (ℕ × ℕ) → Type 0
AgreeAt key s t = find nat_cmp key s ≡ find nat_cmp key t

abbrev pub DifferAt : ℕ → List (ℕ × ℕ) → List (ℕ × ℕ) → Type 0
DifferAt key s t = find nat_cmp key s ≢ find nat_cmp key t

-- the entry at the place has the key
pub record IsAt (key : ℕ) (s : List (ℕ × ℕ)) (i : ℕ) : Type 0 where
  pub in_range : i < length s
  pub has_key : HoldsAt (λ e. e.0 ≡ key) s i

-- the key would stand at the place: lesser keys before it, and greater ones from it on
pub record IsGapFor (key : ℕ) (s : List (ℕ × ℕ)) (i : ℕ) : Type 0 where
  pub in_range : i ≤ length s
  pub lesser : AllWithin (λ e. nat_cmp e.0 key ≡ Less) s 0 i
  pub greater : AllWithin (λ e. nat_cmp e.0 key ≡ Greater) s i (length s)
