use Rattle.std.proofs.Common.{rules}
use Rattle.std.proofs.lemmas.Iterator.{YieldsList-from_slice, YieldsList-from_map_by}
use Rattle.std.proofs.lemmas.Iterator.Consumers.{map_from_collect}
use Rattle.std.proofs.lemmas.List.{map-id}
use Rattle.mx_room.proofs.queries.event_orders.listed_of.Goals as goal

pub returns-clause-numbers : goal.returns-clause-numbers
returns-clause-numbers c =
    rw (← map-id c.args.events.now)
    (map_from_collect c.collect.result c.collect.ensures.ran (YieldsList-from_map_by _ (λ event. event.number) (λ n. n) (YieldsList-from_slice c.args.events.now cc) c.map.ensures.closure (λ x r q k. search rules)))
