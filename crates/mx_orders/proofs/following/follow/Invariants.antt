use Rattle.std.proofs.Common.{◌≤◌, take}
use Rattle.std.specs.BTreeMap.{get}
use Rattle.std.specs.Ordering.{nat_cmp}
use Rattle.mx_orders.proofs.FollowLemmas.{HasFollowed}
use Rattle.mx_orders.proofs.following.follow.Given as goal

-- the rank follows those of the events so far
abbrev pub invariant-loop-event : goal.invariant-loop-event
invariant-loop-event l = record {
  few : l.found ≤ l.event-index;
  so_far : HasFollowed l.fn.followers.items l.followers.items (get nat_cmp l.places) l.rank (take l.event-index l.cited_events) l.found;
}
