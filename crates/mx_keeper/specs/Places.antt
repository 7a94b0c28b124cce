-- Which of several keepers has what has this name (our own).
use Rattle.std.specs.Prelude.{ℕ, ◌%◌, ◌==◌, Bool, List, sum}

-- a place: its number among so many
pub record PlaceView : Type 0 where
  pub number : ℕ
  pub count : ℕ

-- the number of the place of what has this name, among so many: the sum of the name's bytes
abbrev pub place_number : ℕ → List ℕ → ℕ
place_number count name = sum name % count

abbrev pub is_at : PlaceView → List ℕ → Bool
is_at place name = place_number place.count name == place.number
