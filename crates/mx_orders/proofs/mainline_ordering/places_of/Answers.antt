use Rattle.std.proofs.Common.{rules}
use Rattle.std.proofs.lemmas.Iterator.{YieldsList-from_slice, YieldsList-from_map_by}
use Rattle.std.proofs.lemmas.Iterator.Consumers.{map_from_collect}
use Rattle.mx_orders.specs.Places.{event_position, place_position}
use Rattle.mx_orders.proofs.mainline_ordering.places_of.Goals as goal

pub returns-clause-positions : goal.returns-clause-positions
returns-clause-positions c =
    map_from_collect c.collect.result c.collect.ensures.ran (YieldsList-from_map_by _ place_position event_position (YieldsList-from_slice c.args.positions.now cc) c.map.ensures.closure (λ x r q k. search rules))

pub returns-clause-numbers : goal.returns-clause-numbers
returns-clause-numbers c =
    map_from_collect c.collect.result c.collect.ensures.ran (YieldsList-from_map_by _ (λ place. place.number) (λ positioned. positioned.number) (YieldsList-from_slice c.args.positions.now cc) c.map.ensures.closure (λ x r q k. search rules))
