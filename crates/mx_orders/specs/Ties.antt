-- Positions of events of which the oldest ones only tie, for private clauses.
use Rattle.std.specs.Prelude.{ℕ, ◌≡◌, ◌⊎◌, ◌<◌, ◌==◌, ◌^◌, ◌-◌, min, List, [], ◌∷◌, find, position, Option, None, Some, option_and_then, IfSome, IsSomeAnd}
use Rattle.mx_graph.specs.Record.{Row, is_in, event}
use Rattle.mx_orders.specs.StateMap.{auth_event_at}
use Rattle.mx_orders.specs.Mainline.{power_key, power_levels_of, mainline_position}

-- the least of this number and those of the events' first power levels events; None where an event rests on none
abbrev pub least_power : List Row → ℕ → List ℕ → Option ℕ
least_power rows least [] = Some least
least_power rows least (p ∷ ps) =
    elim (auth_event_at rows (event rows p) power_key) [ None ↦ None | Some q ↦ least_power rows (min least q) ps ]

-- the position in a mainline of each event whose first power levels event is q
unfoldable pub position_on : List Row → List ℕ → ℕ → Option ℕ
position_on rows line q = option_and_then (λ r. position (λ x. x == r) line) (find (is_in line) (q ∷ power_levels_of rows q))

-- the place that all the oldest events have
abbrev pub last_place : ℕ
last_place = 2 ^ 32 - 1

-- an event's place in the mainline, which is before the position of the oldest events
pub record IsBefore (rows : List Row) (line : List ℕ) (oldest event place : ℕ) : Type 0 where
  pub position : mainline_position rows line event ≡ Some place
  pub small : place < last_place
  pub before : IfSome (position_on rows line oldest) (λ other. place < other)

-- the last place, for an event whose position is that of the oldest events
pub record IsOldest (rows : List Row) (line : List ℕ) (oldest event place : ℕ) : Type 0 where
  pub last : place ≡ last_place
  pub position : mainline_position rows line event ≡ position_on rows line oldest

abbrev pub IsInPlace : List Row → List ℕ → ℕ → ℕ → ℕ → Type 0
IsInPlace rows line oldest event place = IsBefore rows line oldest event place ⊎ IsOldest rows line oldest event place

-- the event has such a place
abbrev pub HasPlace : List Row → List ℕ → ℕ → ℕ × Option ℕ → Type 0
HasPlace rows line oldest e = IsSomeAnd e.1 (IsInPlace rows line oldest e.0)
