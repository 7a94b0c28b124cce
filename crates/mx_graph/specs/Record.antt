-- The record of a room: a row for each event that it holds, in order of arrival, the create event first.
-- An event of the record is named by its place, from 0. A set of events is the list of its places, rising.
use Rattle.std.specs.Prelude.{ℕ, ◌==◌, ◌&&◌, Bool, true, List, [], bytes_eq, codes, length, slice_index_or, filter, filter_map, position, Option}
use Rattle.std.specs.List.{range_with_len, list_any}
use Rattle.serde_json.specs.Data.{null}
use Rattle.mx_redact.specs.Fields.{Event, is_text}
use Rattle.mx_pdu.specs.Event.{prev_ids, auth_ids, has_kind, redacts_of}
use Rattle.mx_graph.specs.declared.rows.GraphRow.{GraphRow}

-- an event as it is kept, with its id, and whether it was rejected
abbrev pub Row : Type 0
Row = GraphRow

-- a rejected row with no event
abbrev pub no_row : Row
no_row = record { id = []; event = null; rejected = true }

-- the row at a place, and past the end none
abbrev pub row : List Row → ℕ → Row
row rows p = slice_index_or rows p no_row

abbrev pub event : List Row → ℕ → Event
event rows p = (row rows p).event

abbrev pub places : List Row → List ℕ
places rows = range_with_len 0 (length rows)

-- the events that pass a test
abbrev pub events_where : List Row → (ℕ → Bool) → List ℕ
events_where rows test = filter test (places rows)

abbrev pub is_in : List ℕ → ℕ → Bool
is_in xs p = list_any (λ x. x == p) xs

-- the event with an id, which is looked up in this record alone
abbrev pub place_of : List Row → List ℕ → Option ℕ
place_of rows id = position (λ r. bytes_eq r.id id) rows

-- Matrix specification, Server-Server API, PDUs: the events that `prev_events` and `auth_events` name, in their order
abbrev pub prev_events : List Row → Event → List ℕ
prev_events rows e = filter_map (place_of rows) (prev_ids e)

abbrev pub auth_events : List Row → Event → List ℕ
auth_events rows e = filter_map (place_of rows) (auth_ids e)

-- Room Version 6, redactions: the event is a redaction that names the id
abbrev pub names_id : List ℕ → Event → Bool
names_id id e = has_kind (codes "m.room.redaction") e && is_text id (redacts_of e)

abbrev pub names_in_redaction : List Row → List ℕ → ℕ → Bool
names_in_redaction rows id p = names_id id (event rows p)
