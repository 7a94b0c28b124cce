use Rattle.mx_engine.specs.Berths.{views_of}
use Rattle.mx_engine.specs.Turns.{StayAtShards}
use Rattle.mx_engine.proofs.OfferingLemmas.{SoFar}
use Rattle.mx_engine.proofs.offering.Offering.offer_each.Given as goal

-- the events so far were offered
abbrev pub invariant-loop-offered : goal.invariant-loop-offered
invariant-loop-offered g l = record {
  berths : StayAtShards l.fn.self.turns l.fn.berths.items l.berths.items;
  so_far : SoFar l.fn.self.turns.caller l.fn.self.origin.now l.fn.events l.offered-index (views_of l.fn.berths.items)
      (views_of l.berths.items) l.fn.told.items l.told.items;
}
