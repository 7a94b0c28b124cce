-- Requests and replies, as HTTP carries them (our own).
use Rattle.std.specs.Prelude.{◌≡◌, ◌⊎◌, Bool, true, false, option_map, string_bytes}
use Rattle.mx_http.specs.declared.messages.HttpRequest.{HttpRequest}
use Rattle.mx_http.specs.declared.messages.HttpReply.{HttpReply}
use Rattle.mx_requests.specs.Calls.{Request}
use Rattle.mx_requests.specs.ReplyBodies.{Response, failure}
use Rattle.mx_requests.specs.declared.faults.Fault.TheVariants.{Memory}
use Rattle.mx_requests.specs.declared.replies.ReplyBody.{ReplyBody}
use Rattle.mx_requests.specs.declared.replies.ReplyBody.TheVariants.{Fixed, Made}

abbrev pub http_request_shown : HttpRequest → Request
http_request_shown r = record {
  method = string_bytes r.method;
  target = r.target.items;
  authorization = option_map (λ header. header.items) r.authorization;
  body = r.body.items;
}

abbrev pub http_reply_shown : HttpReply → Response
http_reply_shown r = record { status = r.status; body = r.body }

-- a reply is carried as it is, or where no memory is left for it, that is told
abbrev pub IsCarried : Response → (carried : Response) → Type 0
IsCarried response carried = (carried ≡ response) ⊎ (carried ≡ failure Memory)

-- a body that every such reply has
abbrev pub is_fixed : ReplyBody → Bool
is_fixed (Fixed bytes) = true
is_fixed (Made bytes) = false
