use Rattle.std.proofs.Common.{refl}
use Rattle.mx_engine.specs.Berths.{views_of}
use Rattle.mx_engine.proofs.TransactionLemmas.{nothing_ended, closed_all, busy_found, refused_begun}
use Rattle.mx_engine.proofs.transactions.Docks.transact.Goals as goal

pub returns-in_err-opening-clause-ended : goal.returns-in_err-opening-clause-ended
returns-in_err-opening-clause-ended g c =
    nothing_ended (views_of c.args.seat.now.books.items) (views_of c.begin_transaction.new.berths.items)
    c.in_err-opening.ensures.opened.err c.requires.ended

pub returns-in-Fresh-clause-ended : goal.returns-in-Fresh-clause-ended
returns-in-Fresh-clause-ended g c =
    closed_all c.args.seat.now.number c.args.key.now c.args.events.now (views_of c.args.seat.now.shards.items)
    (views_of c.close_begun.new.seat.shards.items) (views_of c.args.seat.now.books.items)
    (views_of c.begin_transaction.new.berths.items) (views_of c.close_begun.new.seat.books.items) c.close_begun.result
    c.in_ok-opening.opening c.in-Fresh.is
    c.in_ok-opening.ensures.opened c.close_begun.ensures.ok c.close_begun.ensures.err c.requires.ended

pub returns-in-Busy-clause-ok : goal.returns-in-Busy-clause-ok
returns-in-Busy-clause-ok g c =
    let f = busy_found c.args.seat.now.number c.args.key.now (views_of c.args.seat.now.books.items)
    (views_of c.begin_transaction.new.berths.items) c.in_ok-opening.opening c.in-Busy.is
    c.in_ok-opening.ensures.opened in
    (f.0, f.1, f.2, f.3, refl)

pub returns-in-Fresh-clause-err : goal.returns-in-Fresh-clause-err
returns-in-Fresh-clause-err g c =
    refused_begun c.args.seat.now.number c.args.key.now c.args.events.now (views_of c.args.seat.now.shards.items)
    (views_of c.close_begun.new.seat.shards.items) (views_of c.args.seat.now.books.items)
    (views_of c.begin_transaction.new.berths.items) (views_of c.close_begun.new.seat.books.items) c.close_begun.result
    c.in_ok-opening.opening c.in-Fresh.is c.in_ok-opening.ensures.opened c.close_begun.ensures.err
