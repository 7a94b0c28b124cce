use Rattle.std.specs.BTreeMap.{get}
use Rattle.std.specs.Ordering.{nat_cmp}
use Rattle.mx_orders.proofs.RankLemmas.{at_any}
use Rattle.mx_orders.proofs.FollowLemmas.{one_more_ranked, all_ranked}
use Rattle.mx_orders.proofs.ranking.ranks_of.Goals as goal

pub loop-rank-preserved : goal.loop-rank-preserved
loop-rank-preserved c =
    one_more_ranked c.args.numbers.now c.loop-rank.rank c.index-numbers-rank.result (get nat_cmp c.loop-rank.found) (get nat_cmp c.insert.new.self) c.requires c.loop-rank-test.true
    (at_any c.args.numbers.now c.loop-rank.rank c.index-numbers-rank.result c.loop-rank-test.true c.index-numbers-rank.is)
    c.loop-rank.invariant c.in_ok-insert.ensures.updates.0

pub returns : goal.returns
returns c = all_ranked c.args.numbers.now c.loop-rank.rank (get nat_cmp c.loop-rank.found) c.loop-rank-test.false c.loop-rank.auto.rank-end c.loop-rank.invariant
