use Rattle.mx_orders.proofs.FollowLemmas.{AreEmpty}
use Rattle.mx_orders.proofs.following.empty_lists.Given as goal

abbrev pub invariant-loop : goal.invariant-loop
invariant-loop l = AreEmpty l.lists.items l.counter
