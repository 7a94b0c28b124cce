-- For proofs and private clauses alone.
-- A walk back over the rows of a record, in the order of falling bounds on their depths.
use Rattle.std.specs.Prelude.{◌≡◌, ◌==◌, ◌<◌, ℕ, nat_le, nat_lt, Bool, true, false, not, ◌&&◌, ◌||◌, IsTrue, List, length}
use Rattle.std.specs.declared.alloc.Global.{Global}
use Rattle.std.specs.declared.cmp.Ordering.{Ordering}
use Rattle.std.specs.Ordering.{is_lt, nat_cmp, on, then_cmp}
use Rattle.std.specs.BTreeSet.{BTreeSet, contains}
use Rattle.mx_pdu.specs.Event.{depth_of}
use Rattle.mx_graph.specs.Depths.{depth_bound}
use Rattle.mx_graph.specs.Graph.{ancestors}
use Rattle.mx_graph.specs.Record.{Row, row, event, events_where, is_in, prev_events}
use Rattle.mx_room.specs.declared.queries.history_walks.RowByDepth.{RowByDepth}
use Rattle.mx_room.specs.declared.queries.history_walks.Sought.{Sought}
use Rattle.mx_room.specs.declared.queries.history_walks.HistoryWalk.{HistoryWalk}

-- ---- what is sought

-- one of these events, or an ancestor of one
abbrev pub is_behind : List Row → List ℕ → ℕ → Bool
is_behind rows starts p = is_in starts p || is_in (ancestors rows starts) p

-- an event that may be an answer
abbrev pub is_sought : List Row → Sought → ℕ → Bool
is_sought rows sought p =
    not (contains nat_cmp sought.skipped p) && (nat_le sought.min_depth (depth_of (event rows p)) && not (row rows p).rejected)

-- the answers behind the starts and not behind the known ones
abbrev pub sought_between : List Row → List ℕ → List ℕ → Sought → List ℕ
sought_between rows starts known sought =
    events_where rows (λ p. (is_behind rows starts p && not (is_behind rows known p)) && is_sought rows sought p)

-- ---- rows that wait to be looked at

-- by depth, then by number
abbrev pub row_cmp : RowByDepth → RowByDepth → Ordering
row_cmp = then_cmp (on (λ r. r.depth) nat_cmp) (on (λ r. r.number) nat_cmp)

-- a row with the bound on its depth
abbrev pub bounded : List Row → ℕ → RowByDepth
bounded rows p = record { depth = depth_bound rows p; number = p }

abbrev pub waits : List Row → BTreeSet RowByDepth → ℕ → Bool
waits rows waiting p = contains row_cmp waiting (bounded rows p)

-- each has the bound of its row, which the record has
abbrev pub AreBounded : List Row → BTreeSet RowByDepth → Type 0
AreBounded rows waiting = (r : RowByDepth) → IsTrue (contains row_cmp waiting r) → (r ≡ bounded rows r.number) × (r.number < length rows)

-- no row that waits comes after this one
abbrev pub IsLast : BTreeSet RowByDepth → RowByDepth → Type 0
IsLast waiting r = (q : RowByDepth) → IsTrue (contains row_cmp waiting q) → is_lt (row_cmp r q) ≡ false

-- ---- the walk

-- by bounds, then by numbers
abbrev pub is_under : (ℕ → ℕ) → ℕ → ℕ → Bool
is_under bound x y = nat_lt (bound x) (bound y) || ((bound x == bound y) && nat_lt x y)

abbrev pub is_seen : (ℕ → Bool) → (ℕ → Bool) → (ℕ → Bool) → (ℕ → Bool) → ℕ → Bool
is_seen ahead known done done_known p = (done p || ahead p) || (known p || done_known p)

-- some rows, by their test, and what they lead to, where those of others were left out
pub record IsWalk (cites : ℕ → List ℕ) (bound : ℕ → ℕ) (starts known_starts behind behind_known ahead known done done_known : ℕ → Bool) : Type 0 where
  pub first : (p : ℕ) → starts p ≡ true → is_seen ahead known done done_known p ≡ true
  pub next : (x y : ℕ) → done x ≡ true → is_in (cites x) y ≡ true → is_seen ahead known done done_known y ≡ true
  pub first_known : (p : ℕ) → known_starts p ≡ true → (known p || done_known p) ≡ true
  pub next_known : (x y : ℕ) → done_known x ≡ true → is_in (cites x) y ≡ true → (known y || done_known y) ≡ true
  pub from : (p : ℕ) → (done p || ahead p) ≡ true → behind p ≡ true
  pub from_known : (p : ℕ) → (known p || done_known p) ≡ true → behind_known p ≡ true
  pub apart : (p : ℕ) → ahead p ≡ true → known p ≡ false
  pub unknown : (p : ℕ) → done p ≡ true → behind_known p ≡ false
  pub above : (x p : ℕ) → (done x || done_known x) ≡ true → (ahead p || known p) ≡ true → is_under bound p x ≡ true

-- the rows of a walk are those of the record
pub record AreRows (rows : List Row) (walk : HistoryWalk) : Type 0 where
  pub ahead : AreBounded rows walk.ahead
  pub known : AreBounded rows walk.known
  pub done : (p : ℕ) → is_in walk.done.items p ≡ true → p < length rows

-- a walk from some events, of which those behind others were left out
abbrev pub Walks : List Row → List ℕ → List ℕ → HistoryWalk → Type 0
Walks rows starts known walk =
    IsWalk (λ p. prev_events rows (event rows p)) (depth_bound rows) (is_in starts) (is_in known) (is_behind rows starts) (is_behind rows known)
    (waits rows walk.ahead) (waits rows walk.known) (is_in walk.done.items) (is_in walk.done_known.items)
