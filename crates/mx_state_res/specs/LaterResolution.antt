-- The resolution of states to which one more is added, from the resolution of the others (our own, over the Matrix
-- specification, Room Version 2, state resolution).
use Rattle.std.specs.Prelude.{◌≡◌, ◌<◌, ℕ, T, Bool, true, false, ◌&&◌, ◌||◌, ◌⊎◌, if◌then◌else◌, List, [], ◌∷◌, ◌++◌, Option, None, Some, IfSome, option_map, length}
use Rattle.std.specs.Ordering.{eq_by_cmp, is_eq}
use Rattle.std.specs.FinMap.Entries.{is_sorted, put}
use Rattle.mx_redact.specs.Fields.{is_some_and}
use Rattle.mx_pdu.specs.Event.{is_state}
use Rattle.mx_pdu.specs.StateKeys.{Key}
use Rattle.mx_auth.specs.Rules.{key_of}
use Rattle.mx_auth.specs.declared.versions.RoomVersion.{RoomVersion}
use Rattle.mx_graph.specs.Record.{Row, event, is_in}
use Rattle.mx_graph.specs.Graph.{auth_chain}
use Rattle.mx_orders.specs.Lists.{In}
use Rattle.mx_graph.specs.StateMap.{State, key_cmp, entry, events_of}
use Rattle.mx_orders.specs.StateMap.{with_event}
use Rattle.mx_orders.specs.Mainline.{power_key, mainline, mainline_cmp, mainline_order, put_in_order}
use Rattle.mx_state_res.specs.ChainDifference.{cites}
use Rattle.mx_states.specs.Numbered.{AllAlike}
use Rattle.mx_state_res.specs.Resolution.{unconflicted, full_conflicted, is_power_event, power_events, is_allowed, iterative_auth_checks, resolve}

-- the mainline by which events in conflict are ordered, where none of them is a power event
abbrev pub agreed_line : List Row → List State → List ℕ
agreed_line rows states = mainline rows (entry (unconflicted states) power_key)

-- the order in which they are checked then
abbrev pub checking_order : List Row → List State → List ℕ
checking_order rows states = mainline_order rows (agreed_line rows states) (full_conflicted rows states)

-- an event may be put into a state
abbrev pub is_put : RoomVersion → List Row → State → ℕ → Bool
is_put v rows s p = is_state (event rows p) && is_allowed v rows s (event rows p)

-- whether an event that was put at a key stays there while events are checked, or is replaced by one that would stand there
-- without it too; nothing where another event is judged otherwise because of it
abbrev pub stays : RoomVersion → List Row → Key → ℕ → State → List ℕ → Option Bool
stays v rows key x s [] = Some true
stays v rows key x s (p ∷ ps) =
    if is_put v rows s p then
    (if is_put v rows (put key_cmp key x s) p then
    (if is_some_and (eq_by_cmp key_cmp key) (key_of (event rows p)) then Some false else stays v rows key x (with_event s (event rows p) p) ps)
    else None)
    else (if is_put v rows (put key_cmp key x s) p then None else stays v rows key x s ps)

-- the resolution with an event at a key, from the one without it, where it is checked between these events; nothing where that
-- does not tell it
abbrev pub resolution_with : RoomVersion → List Row → List State → Key → ℕ → List ℕ → List ℕ → Option State
resolution_with v rows states key x before after =
    let s = iterative_auth_checks v rows (unconflicted states) before in
    let resolved = resolve v rows states in
    if is_put v rows s x then option_map (λ here. if here then put key_cmp key x resolved else resolved) (stays v rows key x s after) else Some resolved

-- in the order of its keys
abbrev IsInOrder : State → Type 0
IsInOrder s = T (is_sorted key_cmp s)

-- an event is in the auth chain of a state, or one of its events, and in conflict
abbrev pub is_reached : List Row → List ℕ → State → ℕ → Bool
is_reached rows full s p = is_in (auth_chain rows (events_of s)) p || (is_in full p && is_in (events_of s) p)

-- and so is each event that an event of another state cites
abbrev pub CitesWithin : List Row → List ℕ → State → State → Type 0
CitesWithin rows full s t = (p q : ℕ) → is_in (events_of s) p ≡ true → is_in (cites rows p) q ≡ true → is_reached rows full t q ≡ true

-- at a key some states are in conflict, and what another has there is in conflict among them
abbrev pub IsAside : List State → List ℕ → State → Key → Type 0
IsAside states full s key = (AllAlike key states → ⊥) × IfSome (entry s key) (λ p. is_in full p ≡ true)

-- a state is one of some states, none of whose events in conflict is a power event, with one event more, that is no power
-- event, at a key at which they are in conflict or at which that one has none; where else the two differ is what stands there
-- in conflict already, and but for events in conflict they have one auth chain
pub record IsOneMore (rows : List Row) (states : List State) (before later : State) (key : Key) (x : ℕ) : Type 0 where
  pub sorted : (s : State) → In s states → IsInOrder s
  pub sorted_later : IsInOrder later
  pub member : In before states
  pub there : entry later key ≡ Some x
  pub open_at : (entry before key ≡ None) ⊎ (AllAlike key states → ⊥)
  pub elsewhere : (q : Key) → is_eq (key_cmp q key) ≡ false → (entry later q ≡ entry before q) ⊎ IsAside states (full_conflicted rows states) later q
  pub cited : CitesWithin rows (full_conflicted rows states) later before
  pub cited_before : CitesWithin rows (full_conflicted rows states) before later
  pub at_key : key_of (event rows x) ≡ Some key
  pub known : x < length rows
  pub new : is_in (full_conflicted rows states) x ≡ false
  pub no_power : is_power_event (event rows x) ≡ false
  pub no_powers : power_events rows (full_conflicted rows states) ≡ []

-- a law: where such a state is added, the resolution follows from the one before
abbrev pub ResolvesFromTheOneBefore : List Row → Type 0
ResolvesFromTheOneBefore rows =
    (v : RoomVersion) (states : List State) (before later : State) (key : Key) (x : ℕ) → IsOneMore rows states before later key x
    → (front back : List ℕ) → checking_order rows states ≡ front ++ back
    → put_in_order (mainline_cmp rows (agreed_line rows states)) x (front ++ back) ≡ front ++ (x ∷ back)
    → IfSome (resolution_with v rows states key x front back) (λ resolved. resolve v rows (later ∷ states) ≡ resolved)
