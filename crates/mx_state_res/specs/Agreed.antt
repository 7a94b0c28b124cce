-- What states agree on, for private clauses.
use Rattle.std.specs.Prelude.{◌≡◌, ℕ, List, [], ◌∷◌}
use Rattle.mx_pdu.specs.StateKeys.{Key}
use Rattle.mx_graph.specs.StateMap.{State}
use Rattle.mx_states.specs.Entries.{has_entry}
use Rattle.mx_state_res.specs.Resolution.{in_every}

-- of some states, it has the entries that each of them has
abbrev pub IsAgreed : State → List State → Type 0
IsAgreed agreed [] = Unit {0}
IsAgreed agreed (s ∷ states) = (e : Key × ℕ) → has_entry e agreed ≡ in_every (s ∷ states) e
