use Rattle.mx_world.proofs.RefusalLemmas.{on_err}
use Rattle.mx_engine.specs.Berths.{views_of}
use Rattle.mx_engine.proofs.OfferingLemmas.{so_far_more, so_far_refused}
use Rattle.mx_engine.proofs.BerthLemmas.{after_trans}
use Rattle.mx_engine.proofs.offering.Offering.offer_each.Goals as goal

pub returns-in_err-offer_next-clause-err : goal.returns-in_err-offer_next-clause-err
returns-in_err-offer_next-clause-err g c =
    on_err c.from_residual.result
    (so_far_refused c.args.self.now.turns.caller c.args.self.now.origin.now c.args.events.now c.loop-offered.offered-index
    (views_of c.args.berths.now.items) (views_of c.loop-offered.berths.items) (views_of c.offer_next.new.berths.items)
    c.args.told.now.items c.loop-offered.told.items
    c.loop-offered-test.true c.loop-offered.invariant.so_far c.in_err-offer_next.ensures.err)

pub loop-offered-preserved : goal.loop-offered-preserved
loop-offered-preserved g c =
    let one = c.in_ok-offer_next.ensures.ok in
    record {
      berths = after_trans c.args.self.now.turns.docks.now c.args.self.now.turns.caller c.args.berths.now.items
          c.loop-offered.berths.items c.offer_next.new.berths.items c.loop-offered.invariant.berths
          c.in_ok-offer_next.ensures.berths;
      so_far = so_far_more c.args.self.now.turns.caller c.args.self.now.origin.now c.args.events.now
          c.loop-offered.offered-index c.offered-item.result (views_of c.args.berths.now.items)
          (views_of c.loop-offered.berths.items) (views_of c.offer_next.new.berths.items) c.args.told.now.items
          c.loop-offered.told.items c.offer_next.new.told.items one.0
          c.loop-offered-test.true c.offered-item.is c.loop-offered.invariant.so_far one.1 one.2;
    }
