-- Replies to calls, as HTTP carries them (our own).
use Rattle.std.specs.Prelude.{◌≡◌, ◌⊎◌, ℕ, List}
use Rattle.mx_http.specs.declared.messages.HttpReply.{HttpReply}
use Rattle.mx_http.specs.declared.messages.HttpRequest.{HttpRequest}
use Rattle.mx_http_requests.specs.Carried.{IsCarried, http_reply_shown}
use Rattle.mx_keeper.specs.declared.refusals.CallError.{CallError}
use Rattle.mx_requests.specs.Calls.{Call}
use Rattle.mx_requests.specs.ReplyBodies.{Response}
use Rattle.mx_requests.specs.declared.calls.WireCall.{WireCall}
use Rattle.mx_wire.specs.Responses.{IsCallAnswered, IsCallRefused, unavailable}
use Rattle.mx_server.specs.Requests.{AsksFor, TellsFault}
use Rattle.mx_server.specs.WorkerViews.{WorkerView}
use Rattle.mx_server.specs.declared.workers.AnsweredRequest.{AnsweredRequest}

abbrev pub answer_shown : AnsweredRequest → Response
answer_shown answered = http_reply_shown answered.reply

-- What a worker gives to a call at a moment, as HTTP carries it: the response to its answer, or that it was refused, and what
-- its seat knows then.
abbrev pub IsWorkersReply : (now : ℕ) → Call → (old new : WorkerView) → (carried : Response) → Type 0
IsWorkersReply now call old new carried =
    ((response : Response) × (IsCallAnswered old.name now old.number call old.shards old.books new.shards new.books response
    × IsCarried response carried))
    ⊎ ((error : CallError) × (IsCallRefused old.number call old.shards old.books new.shards new.books error
    × IsCarried (unavailable error) carried))

-- the request asks some server for this call
abbrev pub AsksSome : HttpRequest → WireCall → Type 0
AsksSome request call = (server : List ℕ) × AsksFor server request call

-- what answers calls by these steps gave this reply to a call, in some state and at some moment
pub record IsGiven {F A : Type 0} (step : F → A → ℕ → WireCall → AnsweredRequest → F → Type 0) (call : WireCall) (reply : HttpReply) : Type 0 where
  pub before : F
  pub after : F
  pub memory : A
  pub now : ℕ
  pub answered : AnsweredRequest
  pub is_step : step before memory now call answered after
  pub is_whole : reply ≡ answered.reply

-- the reply tells the fault of the request to some server, or is what was given to the call for which it asks one
abbrev pub IsReplyTo : {F A : Type 0} → (F → A → ℕ → WireCall → AnsweredRequest → F → Type 0) → HttpRequest → HttpReply → Type 0
IsReplyTo step request reply =
    ((server : List ℕ) × TellsFault server request (http_reply_shown reply))
    ⊎ ((call : WireCall) × (AsksSome request call × IsGiven step call reply))
