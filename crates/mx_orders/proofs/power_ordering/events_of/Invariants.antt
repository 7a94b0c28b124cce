use Rattle.std.proofs.Common.{◌≡◌, filter, map, nat_le, slice_index, take}
use Rattle.mx_orders.proofs.power_ordering.events_of.Given as goal

abbrev pub invariant-loop-rank : goal.invariant-loop-rank
invariant-loop-rank l = l.events.items ≡ map (slice_index l.numbers) (filter (nat_le l.first) (take l.rank-index l.ranks))
