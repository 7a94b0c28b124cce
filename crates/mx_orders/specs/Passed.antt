-- The rows that a power order passes, for private clauses.
use Rattle.std.specs.Prelude.{◌≡◌, ◌<◌, ◌≤◌, ◌++◌, ℕ, true, List, length, filter, nat_le}
use Rattle.mx_graph.specs.Record.{Row, is_in, event, auth_events}
use Rattle.mx_orders.specs.Lists.{In, Distinct}

-- what an event cites, from a number on
abbrev pub cites_from : List Row → ℕ → ℕ → List ℕ
cites_from rows least p = filter (nat_le least) (auth_events rows (event rows p))

-- rows beside some events that have, with these, all that one of them cites from a number on, which is above none of them
pub record ArePassed (rows : List Row) (events passed : List ℕ) : Type 0 where
  pub least : ℕ
  pub low : (x : ℕ) → In x (passed ++ events) → least ≤ x
  pub closed : (x y : ℕ) → In x (passed ++ events) → is_in (cites_from rows least x) y ≡ true → In y (passed ++ events)
  pub known : (x : ℕ) → In x passed → x < length rows
  pub distinct : Distinct passed
  pub apart : (x : ℕ) → In x passed → ¬ In x events
