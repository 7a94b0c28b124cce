-- Numbered states beside a record, for clauses, and states that are worked on.
use Rattle.std.specs.Prelude.{◌≡◌, not, ℕ, ◌<◌, ◌++◌, List, ◌∷◌, All, filter, length, map}
use Rattle.std.specs.List.{AllZip}
use Rattle.mx_auth.specs.declared.versions.RoomVersion.{RoomVersion}
use Rattle.mx_graph.specs.Record.{Row, is_in}
use Rattle.mx_graph.specs.StateMap.{State, entry, events_of}
use Rattle.mx_states.specs.Entries.{has_entry}
use Rattle.mx_states.specs.Numbered.{edited, events_at}
use Rattle.mx_orders.specs.PowerOrder.{power_order}
use Rattle.mx_orders.specs.Mainline.{power_key, mainline, mainline_order}
use Rattle.mx_state_res.specs.Resolution.{power_events, iterative_auth_checks}

-- the events of every state are rows
abbrev pub AreKnown : List Row → List State → Type 0
AreKnown rows = All (λ s. All (λ e. e.1 < length rows) s)

-- states were added behind those that were there, and their events are rows
pub record AreAdded (rows : List Row) (old new : List State) : Type 0 where
  pub more : List State
  pub are : new ≡ old ++ more
  pub known : AreKnown rows more

-- a state, the keys that are taken from it, and the entries that are put over it
abbrev pub Edit : Type 0
Edit = State × (State × State)

abbrev pub shown_by : Edit → State
shown_by e = edited e.1.0 e.0 e.1.1

-- a state in which the events of a full conflicted set were checked
abbrev pub checked : RoomVersion → List Row → State → List ℕ → State
checked v rows s full =
    let power = power_events rows full in
    let others = filter (λ p. not (is_in power p)) full in
    let partial = iterative_auth_checks v rows s (power_order rows power) in
    iterative_auth_checks v rows partial (mainline_order rows (mainline rows (entry partial power_key)) others)

-- the events that a state has and another one hasn't at the same key
abbrev pub own_events : State → State → List ℕ
own_events other s = events_of (filter (λ e. not (has_entry e other)) s)

-- of the first of some states its events at some keys, and of each other those that the first hasn't at the same key
abbrev pub event_parts : State → State → List State → List (List ℕ)
event_parts keys s states = events_at keys s ∷ map (own_events s) states

-- lists of the same events, one by one, in whatever order
abbrev pub HaveSameEvents : List (List ℕ) → List (List ℕ) → Type 0
HaveSameEvents = AllZip (λ xs ys. (p : ℕ) → is_in xs p ≡ is_in ys p)
