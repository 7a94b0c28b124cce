-- What is read of an event once, before a sort, for private clauses.
use Rattle.std.specs.Prelude.{◌≡◌, ◌<◌, ℕ, List, length, Option}
use Rattle.std.specs.declared.cmp.Ordering.{Ordering}
use Rattle.std.specs.Ordering.{then_cmp, on, nat_cmp, int_cmp}
use Rattle.std.specs.Cmp.Lexicographic.{slice_cmp}
use Rattle.std.specs.List.{All}
use Rattle.mx_pdu.specs.Event.{timestamp_of}
use Rattle.mx_graph.specs.Record.{Row, row, event}
use Rattle.mx_orders.specs.Mainline.{mainline_position, position_cmp}
use Rattle.mx_orders.specs.declared.mainline_ordering.Place.{Place}
use Rattle.mx_orders.specs.declared.mainline_ordering.Positioned.{Positioned}

-- an event and its position
abbrev pub event_position : Positioned → ℕ × Option ℕ
event_position p = (p.number, p.position)

abbrev pub place_position : Place → ℕ × Option ℕ
place_position p = (p.number, p.position)

-- the event is one of the record, and its position is that in the mainline
pub record IsPositioned (rows : List Row) (line : List ℕ) (p : Positioned) : Type 0 where
  pub known : p.number < length rows
  pub position : p.position ≡ mainline_position rows line p.number

-- the rest of the place is what the record has of its event
pub record IsRead (rows : List Row) (p : Place) : Type 0 where
  pub timestamp : p.timestamp ≡ timestamp_of (event rows p.number)
  pub id : p.id.now ≡ (row rows p.number).id

-- the positions of these events compare as those in the mainline do
abbrev pub CompareAlike : List Row → List ℕ → List (ℕ × Option ℕ) → Type 0
CompareAlike rows line xs =
    All (λ x. All (λ y. position_cmp x.1 y.1 ≡ position_cmp (mainline_position rows line x.0) (mainline_position rows line y.0)) xs) xs

abbrev pub place_cmp : Place → Place → Ordering
place_cmp = then_cmp (on (λ p. p.position) position_cmp) (then_cmp (on (λ p. p.timestamp) int_cmp) (on (λ p. p.id.now) (slice_cmp nat_cmp)))
