-- What answers requests tells each one its fault, and a worker's reply is that to its call.
use Rattle.std.specs.Prelude.{◌≡◌, ℕ, IfSome, List, None, Option, Some}
use Rattle.std.proofs.Common.{◌∙◌, ap, inl, inr, refl, subst, sym}
use Rattle.mx_http.specs.declared.messages.HttpReply.{HttpReply}
use Rattle.mx_http.specs.declared.messages.HttpRequest.{HttpRequest}
use Rattle.mx_http.specs.declared.messages.ReadRequest.{ReadRequest}
use Rattle.mx_http.specs.declared.messages.ReadRequest.TheVariants.{Refused, Asking}
use Rattle.mx_http_requests.specs.Carried.{IsCarried, http_reply_shown}
use Rattle.mx_keeper.specs.declared.refusals.CallError.{CallError}
use Rattle.mx_requests.specs.Calls.{Call}
use Rattle.mx_requests.specs.ReplyBodies.{Response}
use Rattle.mx_requests.specs.declared.calls.WireCall.{WireCall}
use Rattle.mx_wire.specs.Responses.{IsCallAnswered, IsCallRefused, unavailable}
use Rattle.mx_server.specs.Replies.{IsReplyTo, IsWorkersReply}
use Rattle.mx_server.specs.Requests.{TellsFault}
use Rattle.mx_server.specs.WorkerViews.{WorkerView}
use Rattle.mx_server.specs.declared.workers.AnsweredRequest.{AnsweredRequest}

-- the reply where a request is refused, and else another one
abbrev reply_or : {C : Type 0} → HttpReply → ReadRequest C → HttpReply
reply_or other (Refused reply) = reply
reply_or other (Asking asked) = other

-- a request that is refused is told the fault that was read
pub refusal_replies : {F A C : Type 0} (step : F → A → ℕ → WireCall → AnsweredRequest → F → Type 0) (server : List ℕ) (request : HttpRequest) (read noted reply : HttpReply)
    → TellsFault server request (http_reply_shown read) → noted ≡ read → ◌≡◌ {A = ReadRequest C} (Refused noted) (Refused reply) → IsReplyTo step request reply
refusal_replies step server request read noted reply told is_noted is_given =
    inl (server, subst (λ r. TellsFault server request (http_reply_shown r)) (sym is_noted ∙ ap (reply_or noted) is_given) told)

-- a worker's reply is that to the answer of a call, or tells why the call was refused
pub workers_reply : (now : ℕ) (call : Call) (seen old new : WorkerView) (refused : Option CallError) (response carried : Response)
    → seen ≡ old
    → (refused ≡ None → IsCallAnswered seen.name now seen.number call seen.shards seen.books new.shards new.books response)
    → IfSome refused (λ error. IsCallRefused seen.number call seen.shards seen.books new.shards new.books error × (response ≡ unavailable error))
    → IsCarried response carried → IsWorkersReply now call old new carried
workers_reply now call seen old new None response carried same answered told is =
    subst (λ view. IsWorkersReply now call view new carried) same (inl (response, (answered refl, is)))
workers_reply now call seen old new (Some error) response carried same answered told is =
    subst (λ view. IsWorkersReply now call view new carried) same
    (inr (error, (told.0, subst (λ r. IsCarried r carried) told.1 is)))
