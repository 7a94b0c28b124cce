-- What the rows of a table read as (our own).
use Rattle.std.specs.Prelude.{ℕ, ◌+◌, List, [], ◌∷◌, map, Option, Some, option_map, option_and_then}
use Rattle.std.specs.declared.cmp.Ordering.{Ordering}
use Rattle.sqlite.specs.Order.{Row, column, value_cmp}
use Rattle.sqlite_keyed.specs.Lists.{sort_by}

-- a row as the query of all rows shows it: its place, and the cells in these columns
abbrev pub shown : List ℕ → Row → Row
shown columns r = column r 0 ∷ map (λ n. column r n) columns

-- the order of the places
abbrev pub by_place : Row → Row → Ordering
by_place a b = value_cmp (column a 0) (column b 0)

-- shown rows from a place on, each by its place
abbrev pub read_from : {Kept : Type 0} → (ℕ → Row → Option Kept) → ℕ → List Row → Option (List Kept)
read_from one place [] = Some []
read_from one place (r ∷ rs) = option_and_then (λ x. option_map (λ xs. x ∷ xs) (read_from one (place + 1) rs)) (one place r)

-- the rows of a table in the order of their places, which count from 1, by their cells in these columns
abbrev pub read_rows : {Kept : Type 0} → List ℕ → (ℕ → Row → Option Kept) → List Row → Option (List Kept)
read_rows columns one rs = read_from (λ place r. one place (shown columns r)) 1 (sort_by by_place rs)
