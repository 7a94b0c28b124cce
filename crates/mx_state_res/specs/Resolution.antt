-- State resolution, version 2 (Matrix specification, Room Version 2, state resolution).
use Rattle.std.specs.Prelude.{ℕ, Bool, not, ◌&&◌, ◌||◌, if◌then◌else◌, List, [], ◌∷◌, codes, map, filter, flat_map, fold, Option, None, Some, option_and_then, is_none}
use Rattle.std.specs.Option.{option_or}
use Rattle.std.specs.List.{list_any, list_all}
use Rattle.mx_redact.specs.Fields.{Event, is_text}
use Rattle.mx_pdu.specs.Event.{has_kind, has_membership, is_state, sender_of, state_key_of}
use Rattle.mx_auth.specs.StateView.{StateView}
use Rattle.mx_pdu.specs.StateKeys.{Key}
use Rattle.mx_auth.specs.Rules.{same_key, needed_keys, rules}
use Rattle.mx_auth.specs.declared.versions.RoomVersion.{RoomVersion}
use Rattle.mx_graph.specs.Record.{Row, row, event, events_where, is_in}
use Rattle.mx_graph.specs.Graph.{auth_chain}
use Rattle.mx_graph.specs.StateMap.{State, entry, events_of}
use Rattle.mx_states.specs.Entries.{has_entry, overwritten}
use Rattle.mx_orders.specs.StateMap.{with_event, view_by, auth_event_at}
use Rattle.mx_orders.specs.PowerOrder.{power_order}
use Rattle.mx_orders.specs.Mainline.{power_key, mainline, mainline_order}

-- ---- Definitions

-- power events: power levels, join rules, and another user's leave or ban
unfoldable pub is_removal : Event → Bool
is_removal e =
    has_kind (codes "m.room.member") e && (has_membership (codes "leave") e || has_membership (codes "ban") e)
    && not (is_text (sender_of e) (state_key_of e))

unfoldable pub is_power_event : Event → Bool
is_power_event e =
    is_state e && (has_kind (codes "m.room.power_levels") e || has_kind (codes "m.room.join_rules") e || is_removal e)

abbrev pub in_every : List State → Key × ℕ → Bool
in_every states e = list_all (has_entry e) states

-- the unconflicted state map: the entries that every state has
unfoldable pub unconflicted : List State → State
unconflicted [] = []
unconflicted (s ∷ states) = filter (in_every states) s

-- the conflicted state set: the events of all other entries
unfoldable pub conflicted : List Row → List State → List ℕ
conflicted rows states =
    let others = flat_map (filter (λ e. not (in_every states e))) states in
    events_where rows (is_in (events_of others))

-- the auth difference: the events in the auth chains of some states that are not in those of all
unfoldable pub auth_difference : List Row → List State → List ℕ
auth_difference rows states =
    let chains = map (λ s. auth_chain rows (events_of s)) states in
    events_where rows (λ p. list_any (λ chain. is_in chain p) chains && not (list_all (λ chain. is_in chain p) chains))

-- the full conflicted set
unfoldable pub full_conflicted : List Row → List State → List ℕ
full_conflicted rows states =
    let events = conflicted rows states in
    let difference = auth_difference rows states in
    events_where rows (λ p. is_in events p || is_in difference p)

-- ---- Iterative auth checks

-- the event's auth event with a key that it needs, unless that one was rejected
abbrev pub usable_auth_event : RoomVersion → List Row → Event → Key → Option ℕ
usable_auth_event v rows e key =
    if list_any (same_key key) (needed_keys v e) then option_and_then (λ p. if (row rows p).rejected then None else Some p) (auth_event_at rows e key) else None

-- the state in which an event is judged: what the state lacks is taken from the event's auth events
abbrev pub judged_in : RoomVersion → List Row → State → Event → StateView
judged_in v rows s e = view_by rows (λ key. option_or (entry s key) (usable_auth_event v rows e key))

-- the rules of the version allow the event in that state
unfoldable pub is_allowed : RoomVersion → List Row → State → Event → Bool
is_allowed v rows s e = is_none (rules v e (judged_in v rows s e))

unfoldable pub after_check : RoomVersion → List Row → State → ℕ → State
after_check v rows s p = if is_state (event rows p) && is_allowed v rows s (event rows p) then with_event s (event rows p) p else s

-- the state with those of these events, in order, that are allowed
abbrev pub iterative_auth_checks : RoomVersion → List Row → State → List ℕ → State
iterative_auth_checks v rows s events = fold (after_check v rows) s events

-- ---- Algorithm

-- the power events of the full conflicted set, and its events in their auth chains
unfoldable pub power_events : List Row → List ℕ → List ℕ
power_events rows full =
    let power = filter (λ p. is_power_event (event rows p)) full in
    let chain = auth_chain rows power in
    filter (λ p. is_in power p || is_in chain p) full

-- the resolved state of these states of a room of this version
unfoldable pub resolve : RoomVersion → List Row → List State → State
resolve v rows states =
    let full = full_conflicted rows states in
    let power = power_events rows full in
    let others = filter (λ p. not (is_in power p)) full in
    let partial = iterative_auth_checks v rows (unconflicted states) (power_order rows power) in
    let checked = iterative_auth_checks v rows partial (mainline_order rows (mainline rows (entry partial power_key)) others) in
    overwritten checked (unconflicted states)
