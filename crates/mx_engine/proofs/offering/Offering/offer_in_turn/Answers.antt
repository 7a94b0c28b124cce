use Rattle.std.proofs.Common.{◌++◌, sym, ◌∙◌, ap, subst}
use Rattle.mx_engine.specs.Berths.{views_of}
use Rattle.mx_engine.specs.Transactions.{AreOffered}
use Rattle.mx_engine.proofs.StoppedLemmas.{turn_aborted}
use Rattle.mx_engine.proofs.offering.Offering.offer_in_turn.Goals as goal

pub returns-in_err-offer_each-clause-err : goal.returns-in_err-offer_each-clause-err
returns-in_err-offer_each-clause-err g c =
    turn_aborted c.args.self.now.turns.caller c.args.self.now.origin.now c.args.events.now c.from_residual.result
    c.in_err-offer_each.field-0.0
    c.args.self.now.turns.docks.now c.args.berths.now.items (views_of c.offer_each.new.berths.items) c.from_residual.ensures.1
    c.requires.seated c.requires.one c.in_err-offer_each.ensures.err

pub returns-clause-ok : goal.returns-clause-ok
returns-clause-ok g c =
    let all = c.in_ok-offer_each.ensures.ok in
    subst (λ ts. AreOffered c.args.self.now.turns.caller c.args.self.now.origin.now c.args.events.now
    (views_of c.args.berths.now.items) (views_of c.offer_each.new.berths.items) ts)
    (sym (all.2 ∙ ap (λ ts. ts ++ all.0) c.new-told.ensures.items)) all.1
