-- How deep a room's record is behind an event (our own).
use Rattle.std.specs.Prelude.{ℕ, ◌<◌, ◌≤◌, max, List, [], ◌∷◌, fold, length, IsTrue}
use Rattle.mx_pdu.specs.Event.{depth_of}
use Rattle.mx_graph.specs.Graph.{ancestors}
use Rattle.mx_graph.specs.Record.{Row, event, is_in, prev_events}

-- the greatest depth of these events
abbrev pub greatest_depth : List Row → List ℕ → ℕ
greatest_depth rows ps = fold (λ d p. max d (depth_of (event rows p))) 0 ps

-- the greatest depth of an event and of its ancestors
unfoldable pub depth_bound : List Row → ℕ → ℕ
depth_bound rows p = greatest_depth rows (p ∷ ancestors rows (p ∷ []))

-- a law: neither an event nor an ancestor of it is deeper than its bound, and the bounds of what it follows are not above its own
pub record AreBounds (rows : List Row) : Type 0 where
  pub own : (x : ℕ) → x < length rows → depth_of (event rows x) ≤ depth_bound rows x
  pub behind : (x y : ℕ) → IsTrue (is_in (ancestors rows (x ∷ [])) y) → depth_of (event rows y) ≤ depth_bound rows x
  pub falls : (x y : ℕ) → IsTrue (is_in (prev_events rows (event rows x)) y) → depth_bound rows y ≤ depth_bound rows x
