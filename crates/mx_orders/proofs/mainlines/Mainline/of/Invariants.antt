use Rattle.std.proofs.Common.{◌≡◌, ◌<◌, ◌≤◌, ◌+◌, length, ◌++◌}
use Rattle.mx_orders.specs.Mainline as definition
use Rattle.mx_orders.specs.Lists.{Falls, IsBelow, left}
use Rattle.mx_orders.proofs.mainlines.Mainline.of.Given as goal

-- the events so far and the mainline of the next one are the whole
abbrev pub invariant-loop-next : goal.invariant-loop-next
invariant-loop-next l = record {
  so_far : l.line.items ++ definition.mainline l.graph l.next ≡ definition.mainline l.graph l.fn.power;
  falls : Falls l.line.items;
  below : IsBelow l.next l.line.items;
  few : 0 < length l.line.items → length l.line.items + left l.next ≤ 50001;
}

abbrev pub decreases-loop-next : goal.decreases-loop-next
decreases-loop-next l = left l.next
