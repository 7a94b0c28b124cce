-- What a run tells about one room, and when two runs agree on it (our own).
use Rattle.std.specs.Prelude.{ℕ, ◌≡◌, Bool, true, if◌then◌else◌, List, [], ◌∷◌, ◌++◌, Option, Some, None, IsTrue, is_some}
use Rattle.std.specs.List.{list_any}
use Rattle.mx_graph.specs.Record.{place_of}
use Rattle.mx_shard.specs.LoneRoom.{Call, to_host, to_offer, to_join, to_ask, added}
use Rattle.mx_world.specs.Calls.{Start, left, call_of, calls, record_after}
use Rattle.mx_world.specs.Replies.{AreReplies}
use Rattle.mx_receipt.specs.Receipt.{Kept, rows_of}
use Rattle.mx_room.specs.declared.queries.Query.{Query}
use Rattle.mx_room.specs.declared.queries.Query.TheVariants.{Event as ask_event}
use Rattle.mx_room.specs.declared.outcomes.Outcome.{Outcome}
use Rattle.mx_shard.specs.declared.answers.Answer.{Answer}
use Rattle.mx_shard.specs.declared.answers.Answer.TheVariants.{NotHosted, ToOffered}
use Rattle.mx_world.specs.declared.steps.Step.{Step}
use Rattle.mx_world.specs.declared.steps.Step.TheVariants.{Ask}
use Rattle.mx_world.specs.declared.steps.StepReply.{StepReply}
use Rattle.mx_world.specs.declared.steps.StepReply.TheVariants.{OfRoom, OfEvent}

-- the list, where so
abbrev pub where_so : {A : Type 0} → Bool → List A → List A
where_so b xs = if b then xs else []

-- the room holds the event with this id
abbrev pub holds : List Kept → List ℕ → Bool
holds kept id = is_some (place_of (rows_of kept) id)

-- ---- calls that concern a room: all but a query by an id alone that it does not hold

abbrev pub hears_query : List Kept → Query → Bool
hears_query kept (ask_event id) = holds kept id
hears_query kept _ = true

abbrev pub hears : List Kept → Call → Bool
hears kept (to_host o) = true
hears kept (to_offer origin o) = true
hears kept (to_join origin o) = true
hears kept (to_ask origin now q) = hears_query kept q

abbrev pub heard : List Kept → List Call → List Call
heard kept [] = []
heard kept (call ∷ calls) = where_so (hears kept call) (call ∷ []) ++ heard (kept ++ added kept call) calls

-- ---- what the replies tell about a room

-- the answer to an offered event; with no outcome its room is not hosted
abbrev pub offered_answer : Option Outcome → Answer
offered_answer None = NotHosted
offered_answer (Some o) = ToOffered o

abbrev pub answers_in : StepReply → List Answer
answers_in (OfRoom a) = a ∷ []
answers_in (OfEvent t) = offered_answer t.outcome ∷ []
answers_in _ = []

-- the answers in the replies to the later steps, of those steps that make a call which the room hears
abbrev pub told_from : Start → List ℕ → List Step → List Step → List StepReply → List Answer
told_from s room earlier [] replies = []
told_from s room earlier (step ∷ later) [] = []
told_from s room earlier (step ∷ later) (reply ∷ replies) =
    where_so (list_any (hears (record_after s earlier room)) (call_of room (left s earlier) step)) (answers_in reply)
    ++ told_from s room (earlier ++ step ∷ []) later replies

abbrev pub told_about : Start → List ℕ → List Step → List StepReply → List Answer
told_about s room steps replies = told_from s room [] steps replies

-- ---- runs

-- an id that the room holds stands in no other
abbrev pub IsApart : (List ℕ → List Kept) → List ℕ → List ℕ → Type 0
IsApart rows room id = IsTrue (holds (rows room) id) → (other : List ℕ) → IsTrue (holds (rows other) id) → room ≡ other

-- so does the id that a step queries, where it queries an event by its id alone
abbrev pub IsApartAt : (List ℕ → List Kept) → List ℕ → Step → Type 0
IsApartAt rows room (Ask origin now (ask_event id)) = IsApart rows room id
IsApartAt rows room step = Unit {0}

-- the ids that the later steps query so stand apart, each before its step
abbrev pub StayApart : Start → List ℕ → List Step → List Step → Type 0
StayApart s room earlier [] = Unit {0}
StayApart s room earlier (step ∷ later) = IsApartAt (record_after s earlier) room step × StayApart s room (earlier ++ step ∷ []) later

-- a run with its replies, in which the room's ids that are queried stand in no other room
pub record IsRun (s : Start) (room : List ℕ) (steps : List Step) (replies : List StepReply) : Type 0 where
  pub replied : AreReplies s [] steps replies
  pub apart : StayApart s room [] steps

-- two runs that begin with one record of the room and give it the same calls, but for those that it does not hear
pub record Agree (s s' : Start) (room : List ℕ) (steps steps' : List Step) : Type 0 where
  pub begin : s.record_at room ≡ s'.record_at room
  pub calls : heard (s.record_at room) (calls s room steps) ≡ heard (s'.record_at room) (calls s' room steps')

-- two runs tell the same about the room, and leave it the same record
pub record AlikeAbout (s s' : Start) (room : List ℕ) (steps steps' : List Step) (replies replies' : List StepReply) : Type 0 where
  pub answers : told_about s room steps replies ≡ told_about s' room steps' replies'
  pub last_record : record_after s steps room ≡ record_after s' steps' room
