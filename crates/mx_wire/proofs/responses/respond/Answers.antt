use Rattle.std.proofs.Common.{◌≡◌, subst, ⊎_elim}
use Rattle.std.specs.Prelude.{Ok, Err}
use Rattle.mx_engine.specs.Seats.{book_views, seat_number, shard_views, verifier_of}
use Rattle.mx_requests.specs.Calls.{call_of}
use Rattle.mx_requests.specs.CallsShown.{call_shown, request_shown}
use Rattle.mx_requests.specs.RepliesShown.{reply_shown}
use Rattle.mx_wire.proofs.ResponseLemmas.{call_answered, call_unanswered, fault_answered, fault_unanswered}
use Rattle.mx_wire.proofs.responses.respond.Goals as goal

pub returns-in-Ok-clause-reply : goal.returns-in-Ok-clause-reply
returns-in-Ok-clause-reply g c = λ told.
    let old = c.args.seat.now in
    let new = c.answer_call.new.seat in
    let r = request_shown c.args.request.now in
    let is = subst (λ v. call_of (g.V.Verifier.judges v) c.args.server.now.name r ≡ Ok (call_shown c.in-Ok.call)) c.verifier.ensures c.in-Ok.ensures.ok in
    call_answered (g.V.Verifier.judges (verifier_of c.args.engine.now)) c.args.server.now.name c.args.now (seat_number old) (shard_views old) (book_views old) (shard_views new) (book_views new) r
    (call_shown c.in-Ok.call) (reply_shown c.answer_call.result.reply) is (c.answer_call.ensures.reply told)

pub returns-in-Ok-clause-refused : goal.returns-in-Ok-clause-refused
returns-in-Ok-clause-refused g c =
    let old = c.args.seat.now in
    let new = c.answer_call.new.seat in
    let r = request_shown c.args.request.now in
    let is = subst (λ v. call_of (g.V.Verifier.judges v) c.args.server.now.name r ≡ Ok (call_shown c.in-Ok.call)) c.verifier.ensures c.in-Ok.ensures.ok in
    call_unanswered (g.V.Verifier.judges (verifier_of c.args.engine.now)) c.args.server.now.name (seat_number old) (shard_views old) (book_views old) (shard_views new) (book_views new) r
    (call_shown c.in-Ok.call) (reply_shown c.answer_call.result.reply) c.answer_call.result.refused is c.answer_call.ensures.refused

pub returns-in-Err-clause-reply : goal.returns-in-Err-clause-reply
returns-in-Err-clause-reply g c = λ told.
    let old = c.args.seat.now in
    let r = request_shown c.args.request.now in
    let is = ⊎_elim (λ memory. absurd (c.refuse_request.ensures.told told memory)) (λ is. is) c.in-Err.ensures.err in
    fault_answered (g.V.Verifier.judges (verifier_of c.args.engine.now)) c.args.server.now.name c.args.now (seat_number old) (shard_views old) (book_views old) r
    c.in-Err.fault (reply_shown c.refuse_request.result.reply)
    (subst (λ v. call_of (g.V.Verifier.judges v) c.args.server.now.name r ≡ Err c.in-Err.fault) c.verifier.ensures is) (c.refuse_request.ensures.reply told)

pub returns-in-Err-clause-refused : goal.returns-in-Err-clause-refused
returns-in-Err-clause-refused g c =
    let old = c.args.seat.now in
    fault_unanswered (g.V.Verifier.judges (verifier_of c.args.engine.now)) c.args.server.now.name (seat_number old) (shard_views old) (book_views old) (request_shown c.args.request.now)
    (reply_shown c.refuse_request.result.reply) c.refuse_request.result.refused c.refuse_request.ensures.refused
