-- How a shard keeps its journal, for private clauses (our own).
use Rattle.std.specs.Prelude.{◌≡◌, ℕ, ◌<◌, List, [], ◌∷◌, ◌++◌, map, length, get_or, cond, All, IsTrue, Option, Some, None}
use Rattle.std.specs.List.{position_from}
use Rattle.std.specs.BTreeMap.{BTreeMap, get}
use Rattle.std.specs.Cmp.Lexicographic.{slice_cmp}
use Rattle.std.specs.Ordering.{is_eq, nat_cmp}
use Rattle.std.specs.declared.cmp.Ordering.{Ordering}
use Rattle.mx_keeper.specs.Places.{PlaceView, is_at}
use Rattle.mx_keeper.specs.declared.rows.ShardRow.{ShardRow}
use Rattle.mx_receipt.specs.Receipt.{Kept, kept_at, installed}
use Rattle.mx_room.specs.RoomView.{RoomView}
use Rattle.mx_shard.specs.Journal.{Entry, entry_of, entry_of_row, record_of, row_in, IsLegal}
use Rattle.mx_shard.specs.Holders.{IsHolding}
pub use Rattle.mx_shard.specs.Rooms.{rows_at, rows_in, IsReady, IsDistinct}
use Rattle.mx_shard.specs.declared.holders.Holder.{Holder}
use Rattle.mx_shard.specs.declared.journal_places.JournalPlace.{JournalPlace}

-- ---- the rooms

abbrev pub room_ids : List RoomView → List (List ℕ)
room_ids rooms = map (λ room. room.id) rooms

abbrev pub no_room : RoomView
no_room = record { id = []; kept = []; prepared = None }

abbrev pub room_at : List RoomView → ℕ → RoomView
room_at rooms n = get_or rooms n no_room

-- the room with this event prepared to be its next one
abbrev pub with_prepared : RoomView → Option Kept → RoomView
with_prepared room next = record { id = room.id; kept = room.kept; prepared = next }

-- the room with this event added
abbrev pub with_kept : RoomView → Option Kept → RoomView
with_kept room next = record { id = room.id; kept = installed room.kept next; prepared = None }

-- ---- the numbers of the rooms

-- a map from the keys of a list to their places, each key standing there once
pub record IsPlaced {K : Type 0} (cmp : K → K → Ordering) (places : BTreeMap K ℕ) (keys : List K) : Type 0 where
  pub each : (key : K) → get cmp places key ≡ position_from (λ other. is_eq (cmp key other)) 0 keys
  pub once : (n : ℕ) (d : K) → n < length keys → position_from (λ other. is_eq (cmp (get_or keys n d) other)) 0 keys ≡ Some n

-- a map from the ids of these rooms to their numbers
abbrev pub IsNumbered : BTreeMap (List ℕ) ℕ → List RoomView → Type 0
IsNumbered numbers rooms = IsPlaced (slice_cmp nat_cmp) numbers (room_ids rooms)

-- the number of the room with this id
abbrev pub number_of : BTreeMap (List ℕ) ℕ → List ℕ → Option ℕ
number_of numbers id = get (slice_cmp nat_cmp) numbers id

-- a map that has this at one id (`None`: nothing), and at all others what the old map has
abbrev pub IsMoved : BTreeMap (List ℕ) ℕ → BTreeMap (List ℕ) ℕ → List ℕ → Option ℕ → Type 0
IsMoved old new id w = (other : List ℕ) → number_of new other ≡ cond (is_eq (slice_cmp nat_cmp id other)) w (number_of old other)

-- a map that has at each id what the old map has
abbrev pub IsSameMap : BTreeMap (List ℕ) ℕ → BTreeMap (List ℕ) ℕ → Type 0
IsSameMap old new = (id : List ℕ) → number_of new id ≡ number_of old id

-- ---- the journal

-- the entry for an event of this room
abbrev pub entry_in : RoomView → JournalPlace → Entry
entry_in room p = entry_of room.id p.caller (kept_at room.kept p.row)

-- the entries that stand at these places
abbrev pub journal_of : List RoomView → List JournalPlace → List Entry
journal_of rooms places = map (λ p. entry_in (room_at rooms p.room) p) places

-- an event stands there
pub record IsWithin (rooms : List RoomView) (p : JournalPlace) : Type 0 where
  pub room : p.room < length rooms
  pub row : p.row < length (room_at rooms p.room).kept

-- the rooms are what the journal makes of them
pub record IsIndexed (rooms : List RoomView) (numbers : BTreeMap (List ℕ) ℕ) (places : List JournalPlace) : Type 0 where
  pub numbered : IsNumbered numbers rooms
  pub ready : All IsReady rooms
  pub within : All (IsWithin rooms) places
  pub records : (id : List ℕ) → record_of (journal_of rooms places) id ≡ rows_in rooms id

-- and all rooms are of this place, and the journal is one that can arise
pub record IsSound (place : PlaceView) (rooms : List RoomView) (numbers : BTreeMap (List ℕ) ℕ) (places : List JournalPlace) : Type 0 where
  pub indexed : IsIndexed rooms numbers places
  pub here : All (λ entry. IsTrue (is_at place entry.room)) (journal_of rooms places)
  pub legal : IsLegal (journal_of rooms places)

-- behind these entries, the row names the version of its room
abbrev pub HasVersion : List Entry → ShardRow → Type 0
HasVersion journal row = row_in (journal ++ entry_of_row row ∷ []) (entry_of_row row) ≡ row

-- behind these entries, the row can stand
abbrev pub CanFollow : List Entry → ShardRow → Type 0
CanFollow journal row = IsLegal (journal ++ entry_of_row row ∷ []) × HasVersion journal row

-- the rooms and the journal of rows that were found, and which rooms may hold an event
pub record IsReopened (rooms : List RoomView) (numbers : BTreeMap (List ℕ) ℕ) (holders : BTreeMap (List ℕ) Holder) (places : List JournalPlace) : Type 0 where
  pub indexed : IsIndexed rooms numbers places
  pub legal : IsLegal (journal_of rooms places)
  pub holding : IsHolding holders rooms
