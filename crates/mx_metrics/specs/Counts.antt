-- Counters, each at a place.
use Rattle.std.specs.Prelude.{ℕ, ◌+◌, ◌-◌, ◌^◌, min, List, [], ◌∷◌, drop, slice_index, slice_set}

-- the greatest count
abbrev pub most : ℕ
most = 2 ^ 64 - 1

abbrev pub sum_up_to_most : ℕ → ℕ → ℕ
sum_up_to_most a b = min (a + b) most

-- with more at one place
abbrev pub raised : List ℕ → (place by : ℕ) → List ℕ
raised counts place by = slice_set counts place (sum_up_to_most (slice_index counts place) by)

-- each with the one at the same place of others
abbrev pub added : List ℕ → List ℕ → List ℕ
added [] ms = []
added (n ∷ ns) ms = sum_up_to_most n (slice_index ms 0) ∷ added ns (drop 1 ms)
