-- For proofs and private clauses alone.
-- What is read of an event once, before a sort.
use Rattle.std.specs.Prelude.{◌≡◌, ◌<◌, ℕ, nat_le, Bool, List, length}
use Rattle.std.specs.declared.cmp.Ordering.{Ordering}
use Rattle.std.specs.Ordering.{then_cmp, flip_args, on, nat_cmp}
use Rattle.std.specs.Cmp.Lexicographic.{slice_cmp}
use Rattle.mx_pdu.specs.Event.{depth_of}
use Rattle.mx_graph.specs.Record.{Row, row, event}
use Rattle.mx_room.specs.declared.queries.event_orders.Listed.{Listed}

-- it is what its event says
pub record IsListed (rows : List Row) (l : Listed) : Type 0 where
  pub below : l.number < length rows
  pub depth : l.depth ≡ depth_of (event rows l.number)
  pub id : l.id.now ≡ (row rows l.number).id

-- it is at least so deep
abbrev pub is_as_deep : List Row → ℕ → ℕ → Bool
is_as_deep rows depth p = nat_le depth (depth_of (event rows p))

abbrev pub listed_id_rising : Listed → Listed → Ordering
listed_id_rising = on (λ l. l.id.now) (slice_cmp nat_cmp)

abbrev pub listed_depth_rising : Listed → Listed → Ordering
listed_depth_rising = then_cmp (on (λ l. l.depth) nat_cmp) listed_id_rising

abbrev pub listed_depth_falling : Listed → Listed → Ordering
listed_depth_falling = then_cmp (flip_args (on (λ l. l.depth) nat_cmp)) listed_id_rising
