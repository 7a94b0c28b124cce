-- An event of a record as one that another cites, for private clauses.
use Rattle.std.specs.Prelude.{ℕ, List}
use Rattle.mx_auth.specs.Rules.{Cited}
use Rattle.mx_graph.specs.Record.{Row, row, event}

abbrev pub cited_in : List Row → ℕ → Cited
cited_in rows p = record { event = event rows p; rejected = (row rows p).rejected }
