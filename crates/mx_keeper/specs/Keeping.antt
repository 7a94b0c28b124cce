-- What a keeper's call does to its rows, and to its count of failures (our own).
use Rattle.std.specs.Prelude.{ℕ, ◌+◌, ◌-◌, ◌^◌, ◌≤◌, min, List, [], ◌∷◌, ◌++◌, Option, Some, None}

-- the rows with one more at the end
abbrev pub with_row : {Row : Type 0} → Option (List Row) → Row → Option (List Row)
with_row None row = None
with_row (Some rows) row = Some (rows ++ row ∷ [])

-- the count rose, unless it stands at the most that a `u64` holds
abbrev pub Rose : ℕ → ℕ → Type 0
Rose old new = min (old + 1) (2 ^ 64 - 1) ≤ new
