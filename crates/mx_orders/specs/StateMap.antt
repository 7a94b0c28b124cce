-- The state that events make, and a state as the authorization rules see it.
use Rattle.std.specs.Prelude.{ℕ, List, [], ◌∷◌, codes, find as first_where, Option, unwrap_or, option_map}
use Rattle.std.specs.FinMap.Entries.{put}
use Rattle.mx_redact.specs.Fields.{Event, is_some_and}
use Rattle.mx_auth.specs.StateView.{StateView}
use Rattle.mx_pdu.specs.StateKeys.{Key}
use Rattle.mx_auth.specs.Rules.{key_of, same_key}
use Rattle.mx_graph.specs.Record.{Row, row, event, auth_events}
use Rattle.mx_graph.specs.StateMap.{State, key_cmp, entry}

-- the state with the event e, whose place is p, at its key; an event that is no state event changes nothing
abbrev pub with_event : State → Event → ℕ → State
with_event s e p = unwrap_or (option_map (λ key. put key_cmp key p s) (key_of e)) s

-- the first of an event's auth events that has a key
abbrev pub auth_event_at : List Row → Event → Key → Option ℕ
auth_event_at rows e key = first_where (λ p. is_some_and (same_key key) (key_of (event rows p))) (auth_events rows e)

-- the state that these events make; of two with one key it has the first
abbrev pub state_of : List Row → List ℕ → State
state_of rows [] = []
state_of rows (p ∷ ps) = with_event (state_of rows ps) (event rows p) p

-- the state as the authorization rules see it, by the event at each key
abbrev pub view_by : List Row → (Key → Option ℕ) → StateView
view_by rows at = record {
  create_id = option_map (λ p. (row rows p).id) (at (codes "m.room.create", []));
  entry = λ kind key. option_map (event rows) (at (kind, key));
}

abbrev pub view : List Row → State → StateView
view rows s = view_by rows (entry s)
