use Rattle.std.proofs.Common.{◌-◌, length}
use Rattle.std.specs.BTreeSet.{contains}
use Rattle.std.specs.Ordering.{nat_cmp}
use Rattle.mx_orders.specs.PowerOrder as definition
use Rattle.mx_orders.proofs.RankedOrder.{IsTaking}
use Rattle.mx_orders.proofs.power_ordering.power_order.Given as goal

abbrev pub invariant-loop-rank : goal.invariant-loop-rank
invariant-loop-rank l =
    IsTaking l.graph l.numbers.items l.passed l.followers.items l.awaited.items (contains nat_cmp l.ready) l.taken.items (definition.power_order l.graph l.events)

abbrev pub decreases-loop-rank : goal.decreases-loop-rank
decreases-loop-rank l = length l.numbers.items - length l.taken.items
