-- Where a key stands among the entries of a state, for private clauses.
use Rattle.std.specs.Prelude.{◌≡◌, ℕ, ◌<◌, ◌≤◌, length}
use Rattle.std.specs.List.{HoldsAt, AllWithin}
use Rattle.std.specs.declared.cmp.Ordering.TheVariants.{Less, Greater}
use Rattle.mx_pdu.specs.StateKeys.{Key}
use Rattle.mx_graph.specs.StateMap.{State, key_cmp}

-- the entry at the place has the key
pub record IsAt (key : Key) (s : State) (i : ℕ) : Type 0 where
  pub in_range : i < length s
  pub has_key : HoldsAt (λ e. e.0 ≡ key) s i

-- the key would stand at the place: lesser keys before it, and greater ones from it on
pub record IsGapFor (key : Key) (s : State) (i : ℕ) : Type 0 where
  pub in_range : i ≤ length s
  pub lesser : AllWithin (λ e. key_cmp e.0 key ≡ Less) s 0 i
  pub greater : AllWithin (λ e. key_cmp e.0 key ≡ Greater) s i (length s)
