use Rattle.std.specs.BTreeMap.{get}
use Rattle.std.specs.Ordering.{nat_cmp}
use Rattle.mx_orders.proofs.FollowLemmas.{within, one_more_following}
use Rattle.mx_orders.proofs.following.following_of.Goals as goal

pub follow-requires : goal.follow-requires
follow-requires c = within c.args.numbers.now c.loop-rank.followers.items (get nat_cmp c.in_ok-places.places) c.in_ok-places.ensures c.loop-rank.invariant.followed

pub loop-rank-preserved : goal.loop-rank-preserved
loop-rank-preserved c =
    one_more_following c.args.graph.now c.args.numbers.now c.auth_events.result.now c.loop-rank.awaited.items c.push.new.self.items c.loop-rank.followers.items c.follow.new.followers.items (get nat_cmp c.in_ok-places.places) c.loop-rank.rank c.index-numbers-rank.result
    c.in_ok-found.found c.in_ok-places.ensures c.loop-rank-test.true c.index-numbers-rank.is c.auth_events.ensures.cited c.in_ok-found.ensures.len c.in_ok-found.ensures.members c.in_ok-found.ensures.counted
    c.in_ok-push.ensures.items c.loop-rank.invariant
