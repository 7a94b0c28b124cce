use Rattle.mx_engine.specs.Berths.{views_of}
use Rattle.mx_engine.specs.Transactions.{IsAborted}
use Rattle.mx_engine.proofs.StoppedLemmas.{handed, all_begun}
use Rattle.mx_engine.proofs.offering.Offering.reply_to.Goals as goal

pub returns-in_err-told-clause-err : goal.returns-in_err-told-clause-err
returns-in_err-told-clause-err g c =
    handed c.from_residual.result c.in_err-told.field-0.0
    (IsAborted c.args.self.now.turns.caller c.args.self.now.origin.now c.args.events.now (views_of c.args.berths.now.items)
    (views_of c.offer_all.new.berths.items))
    c.from_residual.ensures.1 c.in_err-told.ensures.err

pub returns-in_err-reply-clause-err : goal.returns-in_err-reply-clause-err
returns-in_err-reply-clause-err g c =
    all_begun c.args.self.now.turns.caller c.args.self.now.origin.now c.args.events.now c.from_residual-in_err-reply.result
    (views_of c.args.berths.now.items) (views_of c.offer_all.new.berths.items) c.in_ok-told.told.items
    c.in_ok-told.ensures.ok

pub returns-in_err-kept-clause-err : goal.returns-in_err-kept-clause-err
returns-in_err-kept-clause-err g c =
    all_begun c.args.self.now.turns.caller c.args.self.now.origin.now c.args.events.now c.from_residual-in_err-kept.result
    (views_of c.args.berths.now.items) (views_of c.offer_all.new.berths.items) c.in_ok-told.told.items
    c.in_ok-told.ensures.ok
