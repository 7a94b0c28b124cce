-- The rooms of a shard, as its journal makes them (our own).
use Rattle.std.specs.Prelude.{◌≡◌, ℕ, ◌<◌, List, [], bytes_eq, find, length, get_or, All, Option, Some, None}
use Rattle.mx_receipt.specs.Receipt.{Kept}
use Rattle.mx_room.specs.RoomView.{RoomView, IsHosted}
use Rattle.mx_shard.specs.Journal.{Entry, record_of}

abbrev pub rows_at : Option RoomView → List Kept
rows_at None = []
rows_at (Some room) = room.kept

-- what the room with this id has kept; one that is not hosted has no row
abbrev pub rows_in : List RoomView → List ℕ → List Kept
rows_in rooms id = rows_at (find (λ room. bytes_eq room.id id) rooms)

-- it has an event, and none is prepared
pub record IsReady (room : RoomView) : Type 0 where
  pub hosted : IsHosted room.kept
  pub free : room.prepared ≡ None

-- each room is the first with its id
abbrev pub IsDistinct : List RoomView → Type 0
IsDistinct rooms = (n : ℕ) (d : RoomView) → n < length rooms → find (λ room. bytes_eq room.id (get_or rooms n d).id) rooms ≡ Some (get_or rooms n d)

-- each room that the journal makes, once, with the record that it makes of it
pub record AreRoomsOf (journal : List Entry) (rooms : List RoomView) : Type 0 where
  pub ready : All IsReady rooms
  pub distinct : IsDistinct rooms
  pub records : (id : List ℕ) → record_of journal id ≡ rows_in rooms id
