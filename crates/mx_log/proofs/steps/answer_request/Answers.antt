use Rattle.std.proofs.Common.{⊎_elim}
use Rattle.mx_requests.specs.CallsShown.{call_shown, request_shown}
use Rattle.mx_pdu.specs.Offers.{offer_by}
use Rattle.mx_requests.specs.RepliesShown.{reply_shown}
use Rattle.mx_log.proofs.AnswerLemmas.{fault_done, called_done}
use Rattle.mx_log.proofs.steps.answer_request.Goals as goal

pub returns-in_ok-reply-in-Ok : goal.returns-in_ok-reply-in-Ok
returns-in_ok-reply-in-Ok g c = λ start earlier now.
    called_done (offer_by (g.V.Verifier.judges c.args.verifier.now)) c.args.server.now.name c.args.line.now.now (request_shown c.args.line.now.request)
    (call_shown c.in-Ok.call) (reply_shown c.in_ok-reply-in-Ok.reply) start earlier c.answer_call.new.desk.rooms.world c.in-Ok.ensures.ok
    (c.in_ok-reply-in-Ok.ensures start earlier now)

pub returns-in_ok-reply-in-Err : goal.returns-in_ok-reply-in-Err
returns-in_ok-reply-in-Err g c = λ start earlier now.
    fault_done (offer_by (g.V.Verifier.judges c.args.verifier.now)) c.args.server.now.name c.args.line.now.now (request_shown c.args.line.now.request)
    c.in-Err.fault (reply_shown c.in_ok-reply-in-Err.reply) start earlier c.args.desk.now.rooms.world
    (⊎_elim (λ memory. absurd (c.in_ok-reply-in-Err.ensures.other memory)) (λ is. is) c.in-Err.ensures.err)
    c.in_ok-reply-in-Err.ensures.reply now
