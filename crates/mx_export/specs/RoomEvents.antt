-- The events of a room as a log has them: each once, known by its id, and each after those that it cites (our own;
-- Matrix specification, Room Version 4, event ids; Server-Server API, PDUs).
use Rattle.std.specs.Prelude.{ℕ, ◌==◌, Bool, true, not, ◌&&◌, List, [], ◌∷◌, ◌++◌, codes, bytes_eq, filter, length, Option, if◌then◌else◌}
use Rattle.std.specs.List.{find, fold, list_any}
use Rattle.mx_redact.specs.Fields.{Event, is_text}
use Rattle.mx_redact.specs.Hashes.{event_id}
use Rattle.mx_redact.specs.Redaction.{is_among}
use Rattle.mx_pdu.specs.Event.{room_of, state_key_of, prev_ids, auth_ids, has_kind}
use Rattle.mx_export.specs.Arrangement.{arranged, unarranged}

-- the ids of the events that it cites
abbrev pub cited_ids : Event → List (List ℕ)
cited_ids e = prev_ids e ++ auth_ids e

-- one event cites another
abbrev pub cites : Event → Event → Bool
cites e other = is_among (cited_ids e) (event_id other)

abbrev pub is_in_room : List ℕ → Event → Bool
is_in_room room e = bytes_eq (room_of e) room

abbrev pub cites_none : Event → Bool
cites_none e = (length (prev_ids e) == 0) && (length (auth_ids e) == 0)

-- Room Version 6, authorization rules: a create event cites no event
abbrev pub is_create : Event → Bool
is_create e = (has_kind (codes "m.room.create") e && is_text [] (state_key_of e)) && cites_none e

-- the create event that hosts the room: the first that was found
abbrev pub create_of : List ℕ → List Event → Option Event
create_of room es = find (λ e. is_in_room room e && is_create e) es

abbrev pub has_id : List Event → List ℕ → Bool
has_id es id = list_any (λ e. bytes_eq id (event_id e)) es

-- with one event more, unless one with its id is there
abbrev pub with_event : List Event → Event → List Event
with_event es e = if has_id es (event_id e) then es else es ++ e ∷ []

-- the events of a room, each once, as they were found, its create event first
abbrev pub room_events : List ℕ → Event → List Event → List Event
room_events room create es = fold with_event (create ∷ []) (filter (is_in_room room) es)

-- each after those that it cites and that are there, else as they were found
abbrev pub in_order : List Event → List Event
in_order es = arranged cites (length es) es

-- those that cite one another in a circle, and what cites them: hashes allow none
abbrev pub in_circles : List Event → List Event
in_circles es = unarranged cites (length es) es

-- no two of these have one id
abbrev pub ids_differ : List Event → Bool
ids_differ [] = true
ids_differ (e ∷ es) = not (has_id es (event_id e)) && ids_differ es

-- an event of these cites this id, which none of them has
abbrev pub is_missing : List Event → List ℕ → Bool
is_missing es id = list_any (λ e. is_among (cited_ids e) id) es && not (has_id es id)

-- an event cites an id that none of these has
abbrev pub lacks_one : List Event → Event → Bool
lacks_one es e = list_any (λ id. not (has_id es id)) (cited_ids e)
