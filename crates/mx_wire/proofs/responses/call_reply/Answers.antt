use Rattle.std.proofs.Common.{sym, subst}
use Rattle.std.specs.Prelude.{string_bytes}
use Rattle.mx_engine.specs.Seats.{book_views, seat_number, shard_views}
use Rattle.mx_engine.proofs.StoppedLemmas.{handed}
use Rattle.mx_requests.specs.Calls.{sends}
use Rattle.mx_requests.specs.CallsShown.{call_shown}
use Rattle.mx_requests.specs.RepliesShown.{reply_shown}
use Rattle.mx_wire.specs.Responses.{IsCallAnswered, IsCallRefused}
use Rattle.mx_wire.proofs.responses.call_reply.Goals as goal

pub returns-in_err-reply-in-Sends-clause-err : goal.returns-in_err-reply-in-Sends-clause-err
returns-in_err-reply-in-Sends-clause-err g c =
    let old = c.args.seat.now in
    let new = c.answer_transaction.new.seat in
    let error = c.in_err-reply-in-Sends.field-0.0 in
    handed c.from_residual.result error
    (IsCallRefused (seat_number old) (call_shown c.args.call) (shard_views old) (book_views old) (shard_views new) (book_views new))
    c.from_residual.ensures.1
    (subst (λ call. IsCallRefused (seat_number old) (call_shown call) (shard_views old) (book_views old) (shard_views new) (book_views new) error) (sym c.in-Sends.is)
    (subst (λ events. IsCallRefused (seat_number old)
    (sends c.in-Sends.origin (string_bytes c.in-Sends.transaction) events) (shard_views old) (book_views old)
    (shard_views new) (book_views new) error) c.deref.ensures.value
    (subst (λ txn. IsCallRefused (seat_number old) (sends c.in-Sends.origin txn c.deref.result.now) (shard_views old)
    (book_views old) (shard_views new)
    (book_views new) error) c.new-txn.ensures c.in_err-reply-in-Sends.ensures.err)))

pub returns-in_err-reply-in-Joins-clause-err : goal.returns-in_err-reply-in-Joins-clause-err
returns-in_err-reply-in-Joins-clause-err g c =
    let old = c.args.seat.now in
    let new = c.answer_join.new.seat in
    let error = c.in_err-reply-in-Joins.field-0.0 in
    handed c.from_residual-in_err-reply-in-Joins.result error
    (IsCallRefused (seat_number old) (call_shown c.args.call) (shard_views old) (book_views old) (shard_views new) (book_views new))
    c.from_residual-in_err-reply-in-Joins.ensures.1
    (subst (λ call. IsCallRefused (seat_number old) (call_shown call) (shard_views old) (book_views old) (shard_views new) (book_views new) error) (sym c.in-Joins.is)
    c.in_err-reply-in-Joins.ensures.err)

pub returns-in_err-reply-in-Asks-clause-err : goal.returns-in_err-reply-in-Asks-clause-err
returns-in_err-reply-in-Asks-clause-err g c =
    let old = c.args.seat.now in
    let new = c.answer_query.new.seat in
    let error = c.in_err-reply-in-Asks.field-0.0 in
    handed c.from_residual-in_err-reply-in-Asks.result error
    (IsCallRefused (seat_number old) (call_shown c.args.call) (shard_views old) (book_views old) (shard_views new) (book_views new))
    c.from_residual-in_err-reply-in-Asks.ensures.1
    (subst (λ call. IsCallRefused (seat_number old) (call_shown call) (shard_views old) (book_views old) (shard_views new) (book_views new) error) (sym c.in-Asks.is)
    c.in_err-reply-in-Asks.ensures.err)

pub returns-in_ok-reply-in-Sends-clause-reply : goal.returns-in_ok-reply-in-Sends-clause-reply
returns-in_ok-reply-in-Sends-clause-reply g c =
    let old = c.args.seat.now in
    let new = c.answer_transaction.new.seat in
    let reply = reply_shown c.in_ok-reply-in-Sends.reply in
    subst (λ call. IsCallAnswered c.args.name.now c.args.now (seat_number old) (call_shown call) (shard_views old) (book_views old) (shard_views new) (book_views new) reply) (sym c.in-Sends.is)
    (subst (λ events. IsCallAnswered c.args.name.now c.args.now (seat_number old) (sends c.in-Sends.origin (string_bytes c.in-Sends.transaction) events) (shard_views old) (book_views old) (shard_views new) (book_views new) reply) c.deref.ensures.value
    (subst (λ txn. IsCallAnswered c.args.name.now c.args.now (seat_number old) (sends c.in-Sends.origin txn c.deref.result.now) (shard_views old) (book_views old) (shard_views new) (book_views new) reply) c.new-txn.ensures (c.in_ok-reply-in-Sends.ensures.reply c.args.now)))

pub returns-in_ok-reply-in-Joins-clause-reply : goal.returns-in_ok-reply-in-Joins-clause-reply
returns-in_ok-reply-in-Joins-clause-reply g c =
    let old = c.args.seat.now in
    let new = c.answer_join.new.seat in
    subst (λ call. IsCallAnswered c.args.name.now c.args.now (seat_number old) (call_shown call) (shard_views old) (book_views old) (shard_views new) (book_views new) (reply_shown c.in_ok-reply-in-Joins.reply)) (sym c.in-Joins.is)
    (c.in_ok-reply-in-Joins.ensures.reply c.args.now)
