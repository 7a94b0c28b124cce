use Rattle.std.proofs.Common.{◌≡◌, ◌++◌, map}
use Rattle.std.specs.Vec.Iter.{into_iter_items}
use Rattle.mx_world.specs.Offers.{offer_by}
use Rattle.mx_engine.proofs.offers.offers_of.Given as goal

abbrev pub invariant-loop-event : goal.invariant-loop-event
invariant-loop-event g l =
    l.offers.items ++ map (offer_by (g.V.Verifier.judges l.verifier)) (into_iter_items l.event-iterator) ≡ map
    (offer_by (g.V.Verifier.judges l.verifier)) l.fn.events.items
