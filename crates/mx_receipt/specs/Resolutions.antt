-- For proofs and private clauses alone.
-- What a cache of resolutions says of a room's states.
use Rattle.std.specs.Prelude.{◌≡◌, ◌<◌, ℕ, List, [], ◌∷◌, ◌++◌, All, Contains, IfSome, length, map, slice_index_or}
use Rattle.std.specs.Hash.{usize}
use Rattle.mx_graph.specs.Record.{Row}
use Rattle.mx_graph.specs.StateMap.{State}
use Rattle.mx_state_res.specs.Numbered.{AreKnown}
use Rattle.mx_states.specs.Numbered.{state_at}
use Rattle.mx_state_res.specs.KeptResolutions.{IsKept}
use Rattle.mx_receipt.specs.Receipt.{resolve_in, version_in}
use Rattle.mx_receipt.specs.declared.resolution_cache.ResolutionCache.{ResolutionCache}
use Rattle.mx_receipt.specs.declared.resolution_cache.StateList.{StateList}

-- what is hashed of a list of states: how many they are, and the last one
abbrev pub hashed : List ℕ → List (List ℕ)
hashed [] = usize 0
hashed (n ∷ ns) = usize (length (n ∷ ns)) ++ usize (slice_index_or (n ∷ ns) (length ns) 0)

-- states by their numbers, and the one that they resolve to
pub record IsResolution (rows : List Row) (states : List State) (numbers : List ℕ) (state : ℕ) : Type 0 where
  pub below : All (λ n. n < length states) numbers
  pub state_below : state < length states
  pub known : AreKnown rows (map (state_at states) numbers)
  pub resolved : state_at states state ≡ resolve_in rows (map (state_at states) numbers)

-- each entry is a resolution, and what is kept of the last one is so
abbrev pub AreResolutions : List Row → List State → ResolutionCache → Type 0
AreResolutions rows states cache = (e : StateList × ℕ) → Contains cache.resolutions.entries e → IsResolution rows states e.0.numbers.items e.1

abbrev pub AreRight : List Row → List State → ResolutionCache → Type 0
AreRight rows states cache = AreResolutions rows states cache × IfSome cache.last (IsKept (version_in rows) rows states)
