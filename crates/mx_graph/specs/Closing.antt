-- For proofs and private clauses alone.
-- A walk over marks, from the last number down: what was taken so far, and what is marked.
use Rattle.std.specs.Prelude.{◌≡◌, ◌<◌, ◌≤◌, ◌+◌, ◌||◌, ◌&&◌, ℕ, Bool, true, false, List, length, nat_lt, slice_index_or}
use Rattle.std.specs.List.{list_any}
use Rattle.mx_graph.specs.Edges.{Rises}
use Rattle.mx_graph.specs.Graph.{IsLeastClosed}
use Rattle.mx_graph.specs.Record.{is_in}

-- what each start cites is below a bound
abbrev pub AreCitedBelow : (ℕ → List ℕ) → List ℕ → ℕ → Type 0
AreCitedBelow cites starts bound = (x y : ℕ) → is_in starts x ≡ true → is_in (cites x) y ≡ true → y < bound

-- marked is what a start or an event that was taken cites; taken is, from a number on, all that is reached
pub record IsMarked (cites : ℕ → List ℕ) (starts : List ℕ) (least left : ℕ) (marks : List Bool) (taken : List ℕ) : Type 0 where
  pub in_range : left ≤ length marks
  pub marked : (q : ℕ) → slice_index_or marks q false
      ≡ (nat_lt q (length marks) && (list_any (λ s. is_in (cites s) (least + q)) starts || list_any (λ f. is_in (cites f) (least + q)) taken))
  pub rises : Rises taken
  pub above : (p : ℕ) → is_in taken p ≡ true → least + left ≤ p
  pub reached : (all : ℕ → Bool) → IsLeastClosed cites starts all → (p : ℕ) → least + left ≤ p → is_in taken p ≡ all p
