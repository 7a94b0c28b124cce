use Rattle.std.proofs.Common.{inl, inr, refl, ap, ◌∙◌}
use Rattle.mx_keeper.specs.declared.refusals.CallError.TheVariants.{Memory}
use Rattle.mx_engine.specs.Seats.{book_views, seat_number, shard_views}
use Rattle.mx_engine.proofs.StoppedLemmas.{handed}
use Rattle.mx_requests.specs.Calls.{sends}
use Rattle.mx_step_replies.specs.Steps.{open_step, reply_to}
use Rattle.mx_wire.specs.Responses.{IsCallRefused}
use Rattle.mx_wire.proofs.responses.answer_transaction.Goals as goal

pub returns-in_err-told-clause-err : goal.returns-in_err-told-clause-err
returns-in_err-told-clause-err g c =
    let old = c.args.seat.now in
    let new = c.transaction_offered.new.seat in
    handed c.from_residual.result c.in_err-told.field-0.0
    (IsCallRefused (seat_number old) (sends c.args.key.now.origin c.args.key.now.txn c.args.events.now) (shard_views old) (book_views old) (shard_views new) (book_views new))
    c.from_residual.ensures.1 (inl c.in_err-told.ensures.err)

pub returns-in_err-reply-clause-err : goal.returns-in_err-reply-clause-err
returns-in_err-reply-clause-err g c =
    let old = c.args.seat.now in
    let new = c.transaction_offered.new.seat in
    handed c.from_residual-in_err-reply.result Memory
    (IsCallRefused (seat_number old) (sends c.args.key.now.origin c.args.key.now.txn c.args.events.now) (shard_views old) (book_views old) (shard_views new) (book_views new))
    c.from_residual-in_err-reply.ensures.1 (inr (c.in_ok-told.told, c.in_ok-told.ensures.ok, refl))

pub returns-clause-reply : goal.returns-clause-reply
returns-clause-reply g c = λ now.
    let step = open_step c.args.key.now c.args.events.now in (
      c.in_ok-told.told,
      c.in_ok-told.ensures.ok,
      c.in_ok-reply.ensures c.args.name.now c.args.key.now c.args.events.now ∙ ap (λ last. reply_to c.args.name.now step last) c.to_step_reply-last.ensures,
    )
