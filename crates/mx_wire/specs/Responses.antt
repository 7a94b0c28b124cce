-- The reply to a request by an engine that callers share, told by what its caller knows before and afterwards (our own):
-- of shards and of books.
use Rattle.std.specs.Prelude.{◌≡◌, ◌⊎◌, ℕ, List, Ok, Err}
use Rattle.mx_pdu.specs.Event.{room_of}
use Rattle.mx_room.specs.Queries.{room_named}
use Rattle.mx_shard.specs.LoneRoom.{to_ask, to_join}
use Rattle.mx_shard.specs.Journal.{Entry}
use Rattle.mx_shard.specs.declared.answers.Answer.{Answer}
use Rattle.mx_book.specs.declared.entries.BookEntry.{BookEntry}
use Rattle.mx_book.specs.declared.transaction_keys.TransactionKey.{TransactionKey}
use Rattle.mx_pdu.specs.Offers.{Judge}
use Rattle.mx_world.specs.declared.steps.StepReply.{StepReply}
use Rattle.mx_world.specs.declared.steps.StepReply.TheVariants as step
use Rattle.mx_engine.specs.Views.{BerthView, AddsNothing}
use Rattle.mx_engine.specs.Calls.{IsAnswered, IsAsked}
use Rattle.mx_engine.specs.Transactions.{IsRefused, IsReplied}
use Rattle.mx_engine.specs.declared.replies.TransactionReply.{TransactionReply}
use Rattle.mx_engine.specs.declared.replies.TransactionReply.TheVariants as reply
use Rattle.mx_requests.specs.Calls.{Call, Request, sends, asks, joins, call_of}
use Rattle.mx_step_replies.specs.Steps.{first_step, reply_to}
use Rattle.mx_requests.specs.ReplyBodies.{Response, failure}
use Rattle.mx_requests.specs.Requests.{Read}
use Rattle.mx_requests.specs.declared.faults.Fault.TheVariants as faults
use Rattle.mx_keeper.specs.declared.refusals.CallError.{CallError}
use Rattle.mx_keeper.specs.declared.refusals.CallError.TheVariants as refused

abbrev pub ShardViews : Type 0
ShardViews = List (BerthView Entry)

abbrev pub BookViews : Type 0
BookViews = List (BerthView BookEntry)

-- the reply to a transaction, as that to its last step
abbrev pub last_step_reply : TransactionReply → StepReply
last_step_reply (reply.Replayed body) = step.Replayed body
last_step_reply reply.Busy = step.Busy
last_step_reply (reply.Closed body) = step.Closed body

-- ---- calls

-- The call was answered as the engine may answer it, and the response is the one by that answer. A query adds nothing,
-- and neither it nor a join touches a book.
abbrev pub IsCallAnswered : (server : List ℕ) → (now caller : ℕ) → Call → (shards : ShardViews) → (books : BookViews) → (shards' : ShardViews) → (books' : BookViews) → Response → Type 0
IsCallAnswered server now caller (asks origin q) shards books shards' books' response =
    (told : Answer) × IsAsked caller (to_ask origin now q) (room_named q) shards shards' told
    × (response ≡ reply_to server (first_step now (asks origin q)) (step.OfRoom told)) × AddsNothing shards shards' × (books' ≡ books)
IsCallAnswered server now caller (joins origin o) shards books shards' books' response =
    (told : Answer) × IsAnswered caller (to_join origin o) (room_of o.pdu) shards shards' told
    × (response ≡ reply_to server (first_step now (joins origin o)) (step.OfRoom told)) × (books' ≡ books)
IsCallAnswered server now caller (sends origin txn events) shards books shards' books' response =
    (told : TransactionReply) × IsReplied caller (record { origin = origin; txn = txn }) events shards books shards' books' told
    × (response ≡ reply_to server (first_step now (sends origin txn events)) (last_step_reply told))

-- What a call leaves that was refused for memory or storage. A query adds nothing. A join or a transaction was refused
-- by the engine, with this error, or it was answered, and only the bytes of its reply were refused, for memory.
abbrev pub IsCallRefused : (caller : ℕ) → Call → (shards : ShardViews) → (books : BookViews) → (shards' : ShardViews) → (books' : BookViews) → CallError → Type 0
IsCallRefused caller (asks origin q) shards books shards' books' error = AddsNothing shards shards' × (books' ≡ books)
IsCallRefused caller (joins origin o) shards books shards' books' error =
    (AddsNothing shards shards'
    ⊎ ((told : Answer) × IsAnswered caller (to_join origin o) (room_of o.pdu) shards shards' told × (error ≡ refused.Memory)))
    × (books' ≡ books)
IsCallRefused caller (sends origin txn events) shards books shards' books' error =
    let p : TransactionKey = record { origin = origin; txn = txn } in
    IsRefused caller p events shards books shards' books' error
    ⊎ ((told : TransactionReply) × IsReplied caller p events shards books shards' books' told × (error ≡ refused.Memory))

-- ---- requests, by what they ask for or their first fault; at a fault nothing is asked

abbrev pub IsReadAnswered : (server : List ℕ) → (now caller : ℕ) → Read Call → (shards : ShardViews) → (books : BookViews) → (shards' : ShardViews) → (books' : BookViews) → Response → Type 0
IsReadAnswered server now caller (Ok call) shards books shards' books' response =
    IsCallAnswered server now caller call shards books shards' books' response
IsReadAnswered server now caller (Err fault) shards books shards' books' response =
    (response ≡ failure fault) × (shards' ≡ shards) × (books' ≡ books)

abbrev pub IsReadRefused : (caller : ℕ) → Read Call → (shards : ShardViews) → (books : BookViews) → (shards' : ShardViews) → (books' : BookViews) → CallError → Type 0
IsReadRefused caller (Ok call) shards books shards' books' error = IsCallRefused caller call shards books shards' books' error
IsReadRefused caller (Err fault) shards books shards' books' error = (shards' ≡ shards) × (books' ≡ books)

-- the response to a request to this server
abbrev pub IsResponse : Judge → (server : List ℕ) → (now caller : ℕ) → (shards : ShardViews) → (books : BookViews) → (shards' : ShardViews) → (books' : BookViews) → Request → Response → Type 0
IsResponse judges server now caller shards books shards' books' r response =
    IsReadAnswered server now caller (call_of judges server r) shards books shards' books' response

-- what a request to this server leaves that was refused for memory or storage, as the error says
abbrev pub IsUnanswered : Judge → (server : List ℕ) → (caller : ℕ) → (shards : ShardViews) → (books : BookViews)
    → (shards' : ShardViews) → (books' : BookViews) → Request → CallError → Type 0
IsUnanswered judges server caller shards books shards' books' r error =
    IsReadRefused caller (call_of judges server r) shards books shards' books' error

-- the reply where no memory is left, or what keeps rows failed: status 503
abbrev pub unavailable : CallError → Response
unavailable refused.Memory = failure faults.Memory
unavailable refused.Storage = failure faults.Storage
