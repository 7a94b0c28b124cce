-- The steps that a request begins with, and the reply to it (our own).
use Rattle.std.specs.Prelude.{ℕ, List}
use Rattle.mx_pdu.specs.declared.offering.Offered.{Offered}
use Rattle.mx_room.specs.declared.queries.Query.{Query}
use Rattle.mx_shard.specs.declared.answers.Answer.TheVariants.{ToJoined, ToAsked}
use Rattle.mx_book.specs.declared.transaction_keys.TransactionKey.{TransactionKey}
use Rattle.mx_world.specs.declared.steps.Step.{Step}
use Rattle.mx_world.specs.declared.steps.Step.TheVariants.{Host, Open, Next, Close, Join, Ask}
use Rattle.mx_world.specs.declared.steps.StepReply.{StepReply}
use Rattle.mx_world.specs.declared.steps.StepReply.TheVariants.{OfRoom, Replayed, Closed}
use Rattle.mx_requests.specs.Calls.{Call, sends, asks, joins}
use Rattle.mx_requests.specs.JoinReplies.{join_reply}
use Rattle.mx_requests.specs.ReplyBodies.{Response, success, failure, query_reply}
use Rattle.mx_room.specs.declared.queries.Denied.TheVariants.{NotFound}
use Rattle.mx_requests.specs.declared.faults.Fault.TheVariants.{Denied, Busy as TransactionBusy}

-- a step of a server, with the events of an opening as a list
pub data StepView : Type 0 where
  host_step : Offered → StepView
  open_step : TransactionKey → List Offered → StepView
  next_step close_step : TransactionKey → StepView
  join_step : (origin : List ℕ) → Offered → StepView
  ask_step : (origin : List ℕ) → (now : ℕ) → Query → StepView

abbrev pub step_shown : Step → StepView
step_shown (Host o) = host_step o
step_shown (Open key events) = open_step key events.items
step_shown (Next key) = next_step key
step_shown (Close key) = close_step key
step_shown (Join origin o) = join_step origin o
step_shown (Ask origin now q) = ask_step origin now q

-- the first step of a request: a transaction is opened
abbrev pub first_step : ℕ → Call → StepView
first_step now (sends origin txn events) = open_step (record { origin = origin; txn = txn }) events
first_step now (asks origin q) = ask_step origin now q
first_step now (joins origin o) = join_step origin o

-- the reply to a request, by its first step and the reply to its last one; of a room that is not hosted nothing is found
abbrev pub reply_to : List ℕ → StepView → StepReply → Response
reply_to server (open_step key events) (Closed body) = success body
reply_to server (open_step key events) (Replayed body) = success body
reply_to server (open_step key events) _ = failure TransactionBusy
reply_to server (ask_step origin now q) (OfRoom (ToAsked answered)) = query_reply server now q answered
reply_to server (join_step origin o) (OfRoom (ToJoined reply)) = join_reply server reply
reply_to server _ _ = failure (Denied NotFound)
