use Rattle.std.proofs.Common.{inl, inr, refl}
use Rattle.mx_keeper.specs.declared.refusals.CallError.TheVariants.{Memory}
use Rattle.mx_engine.specs.Seats.{book_views, seat_number, shard_views}
use Rattle.mx_engine.proofs.StoppedLemmas.{handed, at_err}
use Rattle.mx_requests.specs.Calls.{joins}
use Rattle.mx_wire.specs.Responses.{IsCallRefused}
use Rattle.mx_wire.proofs.ResponseLemmas.{same_when}
use Rattle.mx_wire.proofs.responses.answer_join.Goals as goal

pub returns-in_err-told-clause-same_books : goal.returns-in_err-told-clause-same_books
returns-in_err-told-clause-same_books g c = same_when (book_views c.args.seat.now) (book_views c.join_offered.new.seat) c.in_err-told.ensures.books

pub returns-in_err-told-clause-err : goal.returns-in_err-told-clause-err
returns-in_err-told-clause-err g c =
    let old = c.args.seat.now in
    let new = c.join_offered.new.seat in
    at_err c.from_residual.result
    (IsCallRefused (seat_number old) (joins c.args.origin.now c.args.event.now) (shard_views old) (book_views old) (shard_views new) (book_views new))
    (λ error. (inl c.in_err-told.ensures.err, c.in_err-told.ensures.books))

pub returns-in_err-reply-clause-same_books : goal.returns-in_err-reply-clause-same_books
returns-in_err-reply-clause-same_books g c = same_when (book_views c.args.seat.now) (book_views c.join_offered.new.seat) c.in_ok-told.ensures.books

pub returns-in_err-reply-clause-err : goal.returns-in_err-reply-clause-err
returns-in_err-reply-clause-err g c =
    let old = c.args.seat.now in
    let new = c.join_offered.new.seat in
    handed c.from_residual-in_err-reply.result Memory
    (IsCallRefused (seat_number old) (joins c.args.origin.now c.args.event.now) (shard_views old) (book_views old) (shard_views new) (book_views new))
    c.from_residual-in_err-reply.ensures.1 (inr (c.in_ok-told.told, c.in_ok-told.ensures.ok, refl), c.in_ok-told.ensures.books)

pub returns-clause-same_books : goal.returns-clause-same_books
returns-clause-same_books g c = same_when (book_views c.args.seat.now) (book_views c.join_offered.new.seat) c.in_ok-told.ensures.books

pub returns-clause-reply : goal.returns-clause-reply
returns-clause-reply g c = λ now.
    (c.in_ok-told.told, c.in_ok-told.ensures.ok, c.in_ok-reply.ensures c.args.origin.now c.args.event.now, c.in_ok-told.ensures.books)
