-- What a caller is told of a call of a room, by what it knows before and afterwards (our own).
use Rattle.std.specs.Prelude.{◌≡◌, ℕ, ◌<◌, List, length, map, Option, None, Some, Ok}
use Rattle.mx_dock.specs.Journal.{IsPrefix}
use Rattle.mx_keeper.specs.Places.{place_number}
use Rattle.mx_shard.specs.LoneRoom.{Call, answer, added}
use Rattle.mx_shard.specs.Journal.{Entry, entry_of, record_of, IsLegal}
use Rattle.mx_shard.specs.Rooms.{AreRoomsOf}
use Rattle.mx_room.specs.RoomView.{RoomView}
use Rattle.mx_shard.specs.Shown.{IsShown}
use Rattle.mx_shard.specs.declared.answers.Answer.{Answer}
use Rattle.mx_shard.specs.declared.answers.Answer.TheVariants.{ToAsked}
use Rattle.mx_engine.specs.Views.{BerthView, view_at, turned}

-- the entries that a room's call by a caller adds to this journal
abbrev pub entries_added : List Entry → ℕ → List ℕ → Call → List Entry
entries_added journal caller room call = map (entry_of room caller) (added (record_of journal room) call)

-- The room's shard was found at some legal journal, which begins with all that the caller had seen. The answer is that of
-- a server that hosts the room alone, and the caller has then seen that journal, and behind it, with the caller's number,
-- what the call made the room keep.
pub record IsAnswered (caller : ℕ) (call : Call) (room : List ℕ) (old new : List (BerthView Entry))
    (told : Answer) : Type 0 where
  pub journal : List Entry
  pub legal : IsLegal journal
  pub later : IsPrefix (view_at old (place_number (length old) room)).seen journal
  pub reply : told ≡ answer (record_of journal room) call
  pub seen : new ≡ turned old (place_number (length old) room) journal (entries_added journal caller room call)

-- what the caller has now seen of this shard is legal, and its rooms show this
pub record Shows (call : Call) (views : List (BerthView Entry)) (told : Answer) (n : ℕ) : Type 0 where
  pub legal : IsLegal (view_at views n).seen
  pub shown : IsShown (record_of (view_at views n).seen) call told

-- what a room of some shard shows; not found only where no room of any shard shows it
abbrev pub IsShownBy : Call → List (BerthView Entry) → Answer → Type 0
IsShownBy call new (ToAsked (Ok reply)) = (n : ℕ) × (n < length new) × Shows call new (ToAsked (Ok reply)) n
IsShownBy call new told = (n : ℕ) → n < length new → Shows call new told n

-- the answer of the room that the query names, else what some room shows
abbrev pub IsAsked : ℕ → Call → Option (List ℕ) → List (BerthView Entry) → List (BerthView Entry) → Answer → Type 0
IsAsked caller call (Some room) old new told = IsAnswered caller call room old new told
IsAsked caller call None old new told = IsShownBy call new told

-- What the caller has now seen of the shard with this number is legal, and what was read is of the rooms that it makes.
pub record IsRead {A : Type 0} (Gives : List RoomView → A → Type 0) (views : List (BerthView Entry)) (n : ℕ)
    (told : A) : Type 0 where
  pub rooms : List RoomView
  pub legal : IsLegal (view_at views n).seen
  pub are : AreRoomsOf (view_at views n).seen rooms
  pub gives : Gives rooms told
