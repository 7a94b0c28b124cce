use Rattle.mx_orders.proofs.FollowLemmas.{one_more_empty}
use Rattle.mx_orders.proofs.following.empty_lists.Goals as goal

pub loop-preserved : goal.loop-preserved
loop-preserved c = one_more_empty c.loop.lists.items c.push.new.self.items c.new.result c.loop.counter c.loop.invariant c.new.ensures.items c.in_ok-push.ensures.items
