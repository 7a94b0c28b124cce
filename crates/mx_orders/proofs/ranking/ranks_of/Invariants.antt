use Rattle.std.specs.BTreeMap.{get}
use Rattle.std.specs.Ordering.{nat_cmp}
use Rattle.mx_orders.proofs.FollowLemmas.{AreRanked}
use Rattle.mx_orders.proofs.ranking.ranks_of.Given as goal

abbrev pub invariant-loop-rank : goal.invariant-loop-rank
invariant-loop-rank l = AreRanked l.numbers l.rank (get nat_cmp l.found)
