-- For proofs, and for the clauses of what is kept of a resolution.
use Rattle.std.specs.Prelude.{◌≡◌, ◌≤◌, ◌<◌, ℕ, Bool, true, false, ◌||◌, List, [], ◌∷◌, Some, All, IfSome, is_some, length, map, slice_index_or, take}
use Rattle.std.specs.declared.cmp.Ordering.{Ordering}
use Rattle.std.specs.Ordering.{is_gt}
use Rattle.std.specs.FinMap.Entries.{put}
use Rattle.mx_redact.specs.Fields.{is_some_and}
use Rattle.mx_pdu.specs.StateKeys.{Key}
use Rattle.mx_auth.specs.Rules.{key_of}
use Rattle.mx_auth.specs.declared.versions.RoomVersion.{RoomVersion}
use Rattle.mx_graph.specs.Record.{Row, event, is_in}
use Rattle.mx_graph.specs.StateMap.{State, entry, key_cmp}
use Rattle.mx_state_res.specs.ChainDifference.{cites}
use Rattle.mx_state_res.specs.LaterResolution.{IsOneMore, checking_order, is_put, is_reached, stays}
use Rattle.mx_states.specs.Numbered.{AllAlike, state_at, without}
use Rattle.mx_state_res.specs.Numbered.{AreKnown}
use Rattle.mx_state_res.specs.Resolution.{after_check, full_conflicted, iterative_auth_checks, power_events, resolve, unconflicted}
use Rattle.mx_states.specs.Entries.{has_entry}
use Rattle.mx_state_res.specs.TouchedKeys.{HasKeysOf}
use Rattle.mx_state_res.specs.declared.kept_resolutions.KeptResolution.{KeptResolution}
use Rattle.mx_state_res.specs.declared.kept_resolutions.checked_events.CheckedEvent.{CheckedEvent}
use Rattle.mx_state_res.specs.declared.kept_resolutions.outcomes.Outcome.{Outcome}
use Rattle.mx_state_res.specs.declared.kept_resolutions.outcomes.Outcome.TheVariants.{Refused, Replaced, Stays}

-- each event is marked as it is judged in the state after those before it
abbrev pub AreChecked : RoomVersion → List Row → State → List CheckedEvent → Type 0
AreChecked v rows s [] = Unit {0}
AreChecked v rows s (c ∷ cs) = (c.is_put ≡ is_put v rows s c.event) × AreChecked v rows (after_check v rows s c.event) cs

abbrev pub events_checked : List CheckedEvent → List ℕ
events_checked = map (λ c. c.event)

-- an event stands at one of the keys of a map, or in a state
abbrev pub is_settled : List Row → State → State → ℕ → Bool
is_settled rows keys base p = is_some_and (λ key. is_some (entry keys key) || has_entry (key, p) base) (key_of (event rows p))

abbrev pub AreSettled : List Row → State → State → List CheckedEvent → Type 0
AreSettled rows keys base = All (λ c. is_settled rows keys base c.event ≡ true)

-- none of them comes after one behind it
abbrev pub IsInOrder : (ℕ → ℕ → Ordering) → List ℕ → Type 0
IsInOrder cmp xs = (i j : ℕ) → i ≤ j → j < length xs → is_gt (cmp (slice_index_or xs i 0) (slice_index_or xs j 0)) ≡ false

-- what becomes of an event that is checked between others, at its key
abbrev pub IsOutcome : RoomVersion → List Row → Key → ℕ → State → List ℕ → Outcome → Type 0
IsOutcome v rows key x s after Refused = is_put v rows s x ≡ false
IsOutcome v rows key x s after Replaced = (is_put v rows s x ≡ true) × (stays v rows key x s after ≡ Some false)
IsOutcome v rows key x s after Stays = (is_put v rows s x ≡ true) × (stays v rows key x s after ≡ Some true)

abbrev pub is_put_by : Outcome → Bool
is_put_by Refused = false
is_put_by Replaced = true
is_put_by Stays = true

-- of an event that is put: whether it stays
abbrev pub put_outcome : Bool → Outcome
put_outcome true = Stays
put_outcome false = Replaced

-- what it makes of the resolution without it
abbrev pub made_by : Outcome → Key → ℕ → State → State
made_by Refused key x s = s
made_by Replaced key x s = s
made_by Stays key x s = put key_cmp key x s

-- the states that were resolved
abbrev pub states_of : List State → KeptResolution → List State
states_of states kept = map (state_at states) kept.numbers.items

-- the first of them
abbrev pub first_of : List State → KeptResolution → State
first_of states kept = state_at states (slice_index_or kept.numbers.items 0 0)

-- states, of which `base` is the first, differ at some keys, of which `key` is one, and none of their events in conflict is a power event
pub record DifferAtKeys (rows : List Row) (ss : List State) (base : State) (kept : KeptResolution) : Type 0 where
  pub key : Key
  pub there : is_some (entry kept.differing key) ≡ true
  pub apart : (key : Key) → is_some (entry kept.differing key) ≡ true → AllAlike key ss → ⊥
  pub agreed : unconflicted ss ≡ without kept.differing base
  pub order : events_checked kept.order.items ≡ checking_order rows ss
  pub known : All (λ c. c.event < length rows) kept.order.items
  pub settled : kept.are_settled ≡ true → AreSettled rows kept.differing base kept.order.items
  pub no_powers : power_events rows (full_conflicted rows ss) ≡ []

-- what is kept of the resolution of some states
pub record IsKept (v : RoomVersion) (rows : List Row) (states : List State) (kept : KeptResolution) : Type 0 where
  pub numbers : All (λ n. n < length states) kept.numbers.items
  pub some : 0 < length kept.numbers.items
  pub known : AreKnown rows (states_of states kept)
  pub at_keys : DifferAtKeys rows (states_of states kept) (first_of states kept) kept
  pub checked : AreChecked v rows (unconflicted (states_of states kept)) kept.order.items
  pub touched : All (HasKeysOf v rows kept.touched) kept.order.items
  pub below : kept.resolved < length states
  pub resolved : state_at states kept.resolved ≡ resolve v rows (states_of states kept)

-- the state in which the event at a place of the order was checked
abbrev pub state_before : RoomVersion → List Row → List State → KeptResolution → ℕ → State
state_before v rows states kept place = iterative_auth_checks v rows (unconflicted (states_of states kept)) (take place (events_checked kept.order.items))

-- at a key that is in conflict a state has an event that was checked, or none
abbrev pub IsKeptAside : KeptResolution → State → Key → Type 0
IsKeptAside kept s key = (is_some (entry kept.differing key) ≡ true) × IfSome (entry s key) (λ p. is_in (events_checked kept.order.items) p ≡ true)

-- a state reaches what an event cites, beside the events in conflict
abbrev pub CitesReached : List Row → List ℕ → State → ℕ → Type 0
CitesReached rows full s p = (q : ℕ) → is_in (cites rows p) q ≡ true → is_reached rows full s q ≡ true

-- and so of what each event of another state at some keys cites
abbrev pub AllCiteReached : List Row → List ℕ → State → State → State → Type 0
AllCiteReached rows full s t = All (λ e. IfSome (entry s e.0) (CitesReached rows full t))

-- the newest state is one of those that were resolved, with one event more
pub record IsAdded (rows : List Row) (states : List State) (kept : KeptResolution) (newest event : ℕ) : Type 0 where
  pub key : Key
  pub before : State
  pub one : IsOneMore rows (states_of states kept) before (state_at states newest) key event
  pub new : is_in (events_checked kept.order.items) event ≡ false
  pub known : event < length rows
