use Rattle.std.proofs.Common.{inr}
use Rattle.mx_book.specs.declared.entries.BookEntry.TheVariants.{GivenUp}
use Rattle.mx_engine.specs.Berths.{views_of}
use Rattle.mx_engine.specs.BookTurns.{IsEndedIn}
use Rattle.mx_engine.specs.Transactions.{IsAborted}
use Rattle.mx_engine.proofs.StoppedLemmas.{at_err}
use Rattle.mx_engine.proofs.transactions.Docks.close_begun.Goals as goal

pub returns-in_err-keep_reply-in-Ok-clause-err : goal.returns-in_err-keep_reply-in-Ok-clause-err
returns-in_err-keep_reply-in-Ok-clause-err g c =
    let all = c.in-Ok.ensures.ok in
    at_err c.from_residual.result
    (λ error. IsAborted c.args.seat.now.number c.args.key.now.origin c.args.events.now
    (views_of c.args.seat.now.shards.items) (views_of c.reply_to.new.berths.items) error
    × IsEndedIn c.args.seat.now.number c.args.key.now (GivenUp c.args.key.now c.args.seat.now.number)
    (views_of c.args.seat.now.books.items) (views_of c.keep_reply.new.berths.items))
    (λ error. (inr (inr (all.0, all.1)), c.in_err-keep_reply-in-Ok.ensures.given_up))
