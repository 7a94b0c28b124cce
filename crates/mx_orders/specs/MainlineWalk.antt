-- A mainline that is followed only as far as positions ask, for private clauses.
use Rattle.std.specs.Prelude.{ℕ, ◌+◌, ◌<◌, ◌≤◌, List, ◌++◌, length}
use Rattle.mx_graph.specs.Record.{Row}
use Rattle.mx_orders.specs.Lists.{Falls, IsBelow, left}
use Rattle.mx_orders.specs.Mainline.{mainline}
use Rattle.mx_orders.specs.declared.mainline_walks.MainlineWalk.{MainlineWalk}

-- the whole mainline: what was followed, and what comes after it
abbrev pub whole : List Row → MainlineWalk → List ℕ
whole rows walk = walk.line.items ++ mainline rows walk.next

-- what was followed falls, what comes next is below it, and there are no more than places of 32 bits
pub record IsWalk (walk : MainlineWalk) : Type 0 where
  pub falls : Falls walk.line.items
  pub below : IsBelow walk.next walk.line.items
  pub few : 0 < length walk.line.items → length walk.line.items + left walk.next ≤ 50001
