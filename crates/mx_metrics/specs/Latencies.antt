-- The ranges of time in which replies are counted.
use Rattle.std.specs.Prelude.{ℕ, List, [], ◌∷◌, filter, length, nat_lt}

-- the greatest time of each range but the last, in microseconds
abbrev pub bounds : List ℕ
bounds = 500 ∷ 1000 ∷ 2500 ∷ 5000 ∷ 10000 ∷ 25000 ∷ 50000 ∷ 100000 ∷ 500000 ∷ 1000000 ∷ 10000000 ∷ []

-- the number of the range that a time is of: so many of the bounds are below it
abbrev pub range_of : ℕ → ℕ
range_of time = length (filter (λ bound. nat_lt bound time) bounds)
