use Rattle.mx_orders.specs.MainlineWalk.{whole}
use Rattle.mx_orders.proofs.TieLemmas.{placed-alike}
use Rattle.mx_orders.proofs.tied_positions.tied_positions.Goals as goal

pub returns-clause-alike : goal.returns-clause-alike
returns-clause-alike c = placed-alike c.args.graph.now (whole c.args.graph.now c.args.walk.now) c.in-Some.oldest c.loop-event.positions.items c.loop-event.invariant.placed
