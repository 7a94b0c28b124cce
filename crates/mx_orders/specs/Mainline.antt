-- Mainline ordering (Matrix specification, Room Version 2, state resolution).
use Rattle.std.specs.Prelude.{ℕ, zero, suc, ◌==◌, List, [], ◌∷◌, codes, length, find, position, Option, None, Some, option_and_then}
use Rattle.std.specs.declared.cmp.Ordering.{Ordering}
use Rattle.std.specs.declared.cmp.Ordering.TheVariants.{Less, Equal, Greater}
use Rattle.std.specs.Ordering.{then_cmp, on, nat_cmp, int_cmp}
use Rattle.std.specs.Cmp.Lexicographic.{slice_cmp}
use Rattle.std.specs.FinMap.Entries.{by_order}
use Rattle.mx_pdu.specs.Event.{timestamp_of}
use Rattle.mx_pdu.specs.StateKeys.{Key}
use Rattle.mx_graph.specs.Record.{Row, is_in, row, event}
use Rattle.mx_orders.specs.StateMap.{auth_event_at}

-- the type and the state key of power levels events
abbrev pub power_key : Key
power_key = (codes "m.room.power_levels", [])

-- the power levels event among an event's auth events, the one among that one's, and so on; n at most
abbrev pub power_levels_within : List Row → ℕ → ℕ → List ℕ
power_levels_within rows zero p = []
power_levels_within rows (suc n) p =
    elim (auth_event_at rows (event rows p) power_key) [ None ↦ [] | Some q ↦ q ∷ power_levels_within rows n q ]

-- all of them: they are fewer than the events of the record
abbrev pub power_levels_of : List Row → ℕ → List ℕ
power_levels_of rows p = power_levels_within rows (length rows) p

-- the mainline of a power levels event: it, and those
unfoldable pub mainline : List Row → Option ℕ → List ℕ
mainline rows None = []
mainline rows (Some p) = p ∷ power_levels_of rows p

-- the place in a mainline, from 0, of the first of the event's power levels events that lies there; None is infinite
unfoldable pub mainline_position : List Row → List ℕ → ℕ → Option ℕ
mainline_position rows line p = option_and_then (λ q. position (λ x. x == q) line) (find (is_in line) (power_levels_of rows p))

-- the greater position first
abbrev pub position_cmp : Option ℕ → Option ℕ → Ordering
position_cmp None None = Equal
position_cmp None (Some n) = Less
position_cmp (Some m) None = Greater
position_cmp (Some m) (Some n) = nat_cmp n m

-- greater mainline position, earlier `origin_server_ts`, lesser event id
abbrev pub mainline_cmp : List Row → List ℕ → ℕ → ℕ → Ordering
mainline_cmp rows line =
    then_cmp (on (mainline_position rows line) position_cmp)
    (then_cmp (on (λ p. timestamp_of (event rows p)) int_cmp) (on (λ p. (row rows p).id) (slice_cmp nat_cmp)))

-- the list with x before the first element that is not below it
abbrev pub put_in_order : {A : Type 0} → (A → A → Ordering) → A → List A → List A
put_in_order cmp x [] = x ∷ []
put_in_order cmp x (y ∷ ys) = by_order (cmp x y) (x ∷ y ∷ ys) (x ∷ y ∷ ys) (y ∷ put_in_order cmp x ys)

-- the elements in order
abbrev pub sorted : {A : Type 0} → (A → A → Ordering) → List A → List A
sorted cmp [] = []
sorted cmp (x ∷ xs) = put_in_order cmp x (sorted cmp xs)

-- these events in the order of a mainline
unfoldable pub mainline_order : List Row → List ℕ → List ℕ → List ℕ
mainline_order rows line xs = sorted (mainline_cmp rows line) xs
