-- The comma that stands before a later piece.
use Rattle.std.specs.Prelude.{ℕ, List, [], ◌∷◌, Bool, if◌then◌else◌}

abbrev pub comma_if : Bool → List ℕ
comma_if wanted = if wanted then 44 ∷ [] else []
