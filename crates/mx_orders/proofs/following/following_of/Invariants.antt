use Rattle.mx_orders.proofs.FollowLemmas.{AreFollowing}
use Rattle.mx_orders.proofs.following.following_of.Given as goal

abbrev pub invariant-loop-rank : goal.invariant-loop-rank
invariant-loop-rank l = AreFollowing l.graph l.numbers l.followers.items l.awaited.items l.rank
