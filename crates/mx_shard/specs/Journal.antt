-- What is kept of several rooms, in order (our own).
use Rattle.std.specs.Prelude.{ℕ, ◌≡◌, nat_le, Bool, true, not, ◌&&◌, List, [], ◌∷◌, ◌++◌, codes, bytes_eq, length, map, filter, fold, is_none, All, IsTrue}
use Rattle.std.specs.List.{list_any, list_all}
use Rattle.mx_redact.specs.Hashes.{event_id}
use Rattle.mx_pdu.specs.Event.{has_kind, prev_ids, auth_ids, room_of}
use Rattle.mx_graph.specs.Adding.{most_rows}
use Rattle.mx_receipt.specs.Receipt.{Kept, begun, received}
use Rattle.mx_keeper.specs.Places.{PlaceView, is_at}
use Rattle.mx_keeper.specs.declared.rows.ShardRow.{ShardRow}
use Rattle.mx_room.specs.Hosting.{reopen_error}
use Rattle.mx_room.specs.Queries.{room_version}
use Rattle.mx_shard.specs.LoneRoom.{Call, added}
use Rattle.mx_shard.specs.declared.entries.ShardEntry.{ShardEntry}

-- an event as it was kept, with its id, its room and the number of the caller that offered it
abbrev pub Entry : Type 0
Entry = ShardEntry

abbrev pub entries_of : List Entry → List ℕ → List Entry
entries_of journal room = filter (λ e. bytes_eq e.room room) journal

-- the record that entries of one room make: the first is accepted, each later one is judged by those before it
abbrev pub record_by : List Entry → List Kept
record_by [] = []
record_by (e ∷ es) = fold received (begun e.id e.event) (map (λ e. (e.id, e.event)) es)

unfoldable pub record_of : List Entry → List ℕ → List Kept
record_of journal room = record_by (entries_of journal room)

-- the entry for an event that a room has kept
abbrev pub entry_of : List ℕ → ℕ → Kept → Entry
entry_of room caller k = record { room = room; id = k.id; event = k.event; caller = caller }

-- the journal after a room's call by a caller
abbrev pub journal_after : List Entry → ℕ → List ℕ → Call → List Entry
journal_after journal caller room call = journal ++ map (entry_of room caller) (added (record_of journal room) call)

-- the row that is stored of an entry of this journal, with the version of its room, which the room's first entry names
abbrev pub row_in : List Entry → Entry → ShardRow
row_in journal e = record { room = e.room; version = room_version (record_of journal e.room); event = e.event; caller = e.caller }

-- the rows that are stored of entries behind others
abbrev pub stored_behind : List Entry → List Entry → List ShardRow
stored_behind earlier [] = []
stored_behind earlier (e ∷ es) = row_in (earlier ++ e ∷ []) e ∷ stored_behind (earlier ++ e ∷ []) es

-- the rows that are stored of a journal
abbrev pub stored : List Entry → List ShardRow
stored = stored_behind []

-- ---- which journals arise

-- a create event that makes a room; its signature and its content hash are not asked again
abbrev pub is_first : Entry → Bool
is_first e = is_none (reopen_error e.event)

abbrev pub has_id : List Entry → List ℕ → Bool
has_id es id = list_any (λ e. bytes_eq e.id id) es

-- an event that the room can keep after these: it is new, and what it cites is there
abbrev pub may_follow : List Entry → Entry → Bool
may_follow earlier e =
    not (has_kind (codes "m.room.create") e.event) && not (has_id earlier e.id)
    && list_all (has_id earlier) (prev_ids e.event ++ auth_ids e.event)

abbrev pub all_follow : List Entry → List Entry → Bool
all_follow earlier [] = true
all_follow earlier (e ∷ es) = may_follow earlier e && all_follow (earlier ++ e ∷ []) es

-- entries of one room that can arise
abbrev pub are_legal : List Entry → Bool
are_legal [] = true
are_legal (e ∷ es) =
    is_first e && all_follow (e ∷ []) es && nat_le (length (e ∷ es)) most_rows
    && list_all (λ f. bytes_eq (room_of f.event) f.room) (e ∷ es)

abbrev pub IsLegal : List Entry → Type 0
IsLegal journal = (room : List ℕ) → IsTrue (are_legal (entries_of journal room))

-- ---- opening a shard again

-- the entry of a row that was found; its id is worked out of its event
abbrev pub entry_of_row : ShardRow → Entry
entry_of_row row = record { room = row.room; id = event_id row.event; event = row.event; caller = row.caller }

-- the journal of the rows that were found
abbrev pub reopened : List ShardRow → List Entry
reopened rows = map entry_of_row rows

-- the ids are those that are worked out of the events
abbrev pub AreWorkedOut : List Entry → Type 0
AreWorkedOut journal = All (λ e. e.id ≡ event_id e.event) journal

-- a shard at this place can have these rows: each is of a room of the place and names the version of its room, and they make a journal that can arise
pub record CanReopen (place : PlaceView) (rows : List ShardRow) : Type 0 where
  pub here : All (λ row. IsTrue (is_at place row.room)) rows
  pub legal : IsLegal (reopened rows)
  pub versions : stored (reopened rows) ≡ rows
