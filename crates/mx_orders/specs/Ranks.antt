-- Events by their ranks, which are their places in a list, and which of these follow which, for private clauses.
use Rattle.std.specs.Prelude.{◌≡◌, ℕ, ◌<◌, ◌==◌, Bool, List, length, slice_index, Option, Some, Vec}
use Rattle.std.specs.List.{list_any, sum_by, count_by}
use Rattle.std.specs.declared.alloc.Global.{Global}
use Rattle.mx_redact.specs.Fields.{is_some_and}
use Rattle.mx_graph.specs.Record.{Row, is_in, event, auth_events}

-- the event of rank p cites that of rank u
abbrev pub cites : List Row → List ℕ → ℕ → ℕ → Bool
cites rows xs u p = is_in (auth_events rows (event rows (slice_index xs p))) (slice_index xs u)

-- what is found for each number of the list is its place there
pub record IsRanked (xs : List ℕ) (found : ℕ → Option ℕ) : Type 0 where
  pub has : (u : ℕ) → u < length xs → found (slice_index xs u) ≡ Some u
  pub at : (x u : ℕ) → found x ≡ Some u → (u < length xs) × (slice_index xs u ≡ x)

-- the rank u is found for one of these numbers
abbrev pub leads : (ℕ → Option ℕ) → ℕ → List ℕ → Bool
leads found u xs = list_any (λ x. is_some_and (λ v. v == u) (found x)) xs

-- how often a list has a number
abbrev pub times : ℕ → List ℕ → ℕ
times p xs = count_by (λ x. x == p) xs

-- how often p is in these lists
abbrev pub total_of : List (Vec ℕ Global) → ℕ → ℕ
total_of lists p = sum_by (λ v. times p v.items) lists
