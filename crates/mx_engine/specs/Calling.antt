-- One turn at a dock, for private clauses (our own).
use Rattle.std.specs.Prelude.{◌≡◌, ℕ, Bool, true, false, List, [], Option, None, Some, is_some, Result, Ok, Err, IfOk, OnOk, OnErr, IsTrue}
use Rattle.mx_dock.specs.Dock.{IsBerthOf, holds, number, own, place}
use Rattle.mx_dock.specs.declared.docks.Dock.{Dock}
use Rattle.mx_dock.specs.declared.berths.Berth.{Berth}
use Rattle.mx_dock.specs.Journal.{IsPrefix, since, entries_of}
use Rattle.mx_keeper.specs.Places.{PlaceView, is_at}
use Rattle.mx_keeper.specs.declared.refusals.CallError.{CallError}
use Rattle.mx_keeper.specs.declared.refusals.CallError.TheVariants.{Memory, Storage}
use Rattle.mx_shard.specs.LoneRoom.{Call, to_host, to_ask, sent_call}
use Rattle.mx_shard.specs.Journal.{Entry, record_of, IsLegal}
use Rattle.mx_shard.specs.Rooms.{AreRoomsOf}
use Rattle.mx_room.specs.RoomView.{RoomView}
use Rattle.mx_shard.specs.Shown.{IsAnswer, IsShown}
use Rattle.mx_shard.specs.Told.{tells_shown}
use Rattle.mx_shard.specs.declared.answers.Answer.{Answer}
use Rattle.mx_shard.specs.declared.answers.Answer.TheVariants.{ToAsked}
use Rattle.mx_room.specs.declared.queries.Denied.TheVariants.{NotFound}
use Rattle.mx_engine.specs.Places.{place_code}
use Rattle.mx_engine.specs.Views.{BerthView, after_turn}
use Rattle.mx_engine.specs.Calls.{entries_added}
use Rattle.mx_engine.specs.declared.calls.ShardCall.{ShardCall}
use Rattle.mx_engine.specs.declared.calls.ShardCall.TheVariants as calls

abbrev pub call_of : ShardCall → Call
call_of (calls.Host offered) = to_host offered.now
call_of (calls.Send sending origin offered) = sent_call sending origin.now offered.now
call_of (calls.Ask question) = to_ask question.now.origin.now question.now.moment question.now.query.now

-- the room that is called, if one is, is of this place
abbrev pub IsHere : PlaceView → Option (List ℕ) → Type 0
IsHere place None = Unit {0}
IsHere place (Some room) = IsTrue (is_at place room)

-- the entries that a call adds; a query by an event's id alone adds none
abbrev pub entries_by : List Entry → ℕ → Call → Option (List ℕ) → List Entry
entries_by journal caller call None = []
entries_by journal caller call (Some room) = entries_added journal caller room call

-- A caller's berth at the dock of this place holds: the value has this place and this journal, which is legal and begins
-- with all that the caller had seen. What the caller added is all there, and nothing else has its number.
pub record IsHeld {T E : Type 0} (Legal : List E → Type 0) (caller_of : E → ℕ) (at : PlaceView) (dock : Dock T E)
    (caller : ℕ) (old : BerthView E) (new : Berth T E) (found_place : PlaceView) (journal : List E) : Type 0 where
  pub mine : IsBerthOf dock new
  pub held : holds new ≡ true
  pub numbered : number new ≡ caller
  pub placed : place new ≡ place_code at
  pub same : own new ≡ after_turn old journal []
  pub found : found_place ≡ at
  pub legal : Legal journal
  pub later : IsPrefix old.seen journal
  pub opens : IsPrefix old.opening journal
  pub its : entries_of caller_of caller (since old.opening journal) ≡ old.added

-- A call of a shard: a legal journal was found, which begins with what was seen, and the answer is by its rooms' records.
pub record IsTurn (caller : ℕ) (call : Call) (room : Option (List ℕ)) (old new : BerthView Entry)
    (result : Result Answer CallError) : Type 0 where
  pub journal : List Entry
  pub legal : IsLegal journal
  pub later : IsPrefix old.seen journal
  pub reply : IfOk result (λ told. IsAnswer (record_of journal) call room told)
  pub ok : OnOk result (new ≡ after_turn old journal (entries_by journal caller call room))
  pub err : OnErr result (new ≡ after_turn old journal [])

-- what is told of what some room shows; not found where none shows it
abbrev pub told_by : Option Answer → Answer
told_by None = ToAsked (Err NotFound)
told_by (Some told) = told

-- it was refused for storage
abbrev pub is_storage : Result (Option Answer) CallError → Bool
is_storage (Ok found) = false
is_storage (Err Memory) = false
is_storage (Err Storage) = true

-- what a shard shows, where one that was refused for storage shows nothing
abbrev pub found_in : Result (Option Answer) CallError → Result (Option Answer) CallError
found_in (Ok found) = Ok found
found_in (Err Memory) = Err Memory
found_in (Err Storage) = Ok None

-- A query by an event's id alone was put to a shard: what a room of it shows, if one shows it.
pub record IsAskTurn (call : Call) (old new : BerthView Entry) (result : Result (Option Answer) CallError) : Type 0 where
  pub journal : List Entry
  pub legal : IsLegal journal
  pub later : IsPrefix old.seen journal
  pub seen : new ≡ after_turn old journal []
  pub shown : IfOk result (λ found. IsShown (record_of journal) call (told_by found))
  pub told : IfOk result (λ found. tells_shown (told_by found) ≡ is_some found)

-- The rooms of a shard were read: a legal journal was found, which begins with what was seen, and nothing was added.
pub record IsReadTurn {A : Type 0} (Gives : List RoomView → A → Type 0) (old new : BerthView Entry) (told : A) : Type 0 where
  pub journal : List Entry
  pub rooms : List RoomView
  pub legal : IsLegal journal
  pub later : IsPrefix old.seen journal
  pub seen : new ≡ after_turn old journal []
  pub are : AreRoomsOf journal rooms
  pub gives : Gives rooms told
