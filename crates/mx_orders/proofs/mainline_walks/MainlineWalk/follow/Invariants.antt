use Rattle.std.proofs.Common.{◌≡◌}
use Rattle.mx_orders.specs.Lists.{left}
use Rattle.mx_orders.specs.MainlineWalk.{IsWalk, whole}
use Rattle.mx_orders.proofs.mainline_walks.MainlineWalk.follow.Given as goal

-- what was followed, and what comes after it, stay the whole
abbrev pub invariant-loop-self : goal.invariant-loop-self
invariant-loop-self l = record {
  walk : IsWalk l.self;
  same : whole l.graph l.self ≡ whole l.graph l.initial.self;
}

abbrev pub decreases-loop-self : goal.decreases-loop-self
decreases-loop-self l = left l.self.next
