-- What is read of an event once, before a sort by power, for private clauses.
use Rattle.std.specs.Prelude.{◌≡◌, List}
use Rattle.std.specs.declared.cmp.Ordering.{Ordering}
use Rattle.std.specs.Ordering.{then_cmp, flip_args, on, nat_cmp, int_cmp}
use Rattle.std.specs.Cmp.Lexicographic.{slice_cmp}
use Rattle.mx_pdu.specs.Event.{timestamp_of}
use Rattle.mx_graph.specs.Record.{Row, row, event}
use Rattle.mx_orders.specs.PowerOrder.{sender_level}
use Rattle.mx_orders.specs.declared.candidates.Candidate.{Candidate}

-- it is what its event says
pub record IsCandidate (rows : List Row) (c : Candidate) : Type 0 where
  pub level : c.level ≡ sender_level rows c.number
  pub timestamp : c.timestamp ≡ timestamp_of (event rows c.number)
  pub id : c.id.now ≡ (row rows c.number).id

abbrev pub candidate_cmp : Candidate → Candidate → Ordering
candidate_cmp = then_cmp (flip_args (on (λ c. c.level) int_cmp)) (then_cmp (on (λ c. c.timestamp) int_cmp) (on (λ c. c.id.now) (slice_cmp nat_cmp)))
