-- A reply of the program, as the definitions'.
use Rattle.std.specs.Prelude.{ℕ, List}
use Rattle.mx_requests.specs.declared.replies.WireReply.{WireReply}
use Rattle.mx_requests.specs.declared.replies.ReplyBody.{ReplyBody}
use Rattle.mx_requests.specs.declared.replies.ReplyBody.TheVariants.{Made, Fixed}
use Rattle.mx_requests.specs.ReplyBodies.{Response}

abbrev pub body_shown : ReplyBody → List ℕ
body_shown (Made bytes) = bytes.items
body_shown (Fixed bytes) = bytes.now

abbrev pub reply_shown : WireReply → Response
reply_shown r = record { status = r.status; body = body_shown r.body }
