-- What becomes of a request.
use Rattle.std.specs.Prelude.{◌≡◌, ℕ, List, ⊤}
use Rattle.http.specs.declared.response.Response.{Response}
use Rattle.mx_http.specs.declared.messages.HttpRequest.{HttpRequest}
use Rattle.mx_http.specs.declared.messages.HttpReply.{HttpReply}
use Rattle.mx_http.specs.declared.memory.replies.ReplyBody.{ReplyBody}
use Rattle.mx_http.specs.declared.pool.jobs.Work.{Work}
use Rattle.mx_http.specs.declared.pool.jobs.Work.TheVariants.{Read, Answer}
use Rattle.mx_http.specs.declared.pool.loops.Begun.{Begun}
use Rattle.mx_http.specs.declared.pool.loops.Begun.TheVariants.{Replied, Waits}
use Rattle.mx_http.specs.Responses.{IsSent}

-- the first holds of a reply, and the second of what waits
abbrev pub MatchBegun : {X W : Type 0} → Begun X W → (X → Type 0) → (W → Type 0) → Type 0
MatchBegun (Replied reply) P Q = P reply
MatchBegun (Waits waiting) P Q = Q waiting

-- it holds of a reply
abbrev pub IfReplied : {X W : Type 0} → Begun X W → (X → Type 0) → Type 0
IfReplied begun P = MatchBegun begun P (λ _. ⊤)

-- this is left to do for the request
abbrev pub IsLeft : {C : Type 0} → (HttpRequest → C → Type 0) → HttpRequest → Work C → Type 0
IsLeft asks request (Read left) = left ≡ request
IsLeft asks request (Answer call) = asks request call

-- the response with a reply to this request, whole
abbrev pub IsAnswer : (HttpRequest → HttpReply → Type 0) → HttpRequest → Response (ReplyBody (List ℕ)) → Type 0
IsAnswer answers request response = (reply : HttpReply) × answers request reply × IsSent reply response
