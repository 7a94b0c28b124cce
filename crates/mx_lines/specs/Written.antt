-- For proofs and private clauses alone.
-- A line as it is written, member by member.
use Rattle.std.specs.Prelude.{ℕ, List, [], ◌∷◌, ◌++◌, codes, Option, None, Some, true, false}
use Rattle.serde_json.specs.Data.{Data}
use Rattle.mx_canon.specs.Canonical.{string_text, value_text}
use Rattle.mx_canon.specs.Pieces.{comma_if}

-- the beginning of an object, up to the value of its first member
abbrev pub opened : (taken key : List ℕ) → List ℕ
opened taken key = ((taken ++ codes "{") ++ comma_if false) ++ (string_text key ++ codes ":")

-- with a later member, where it is there
abbrev pub with_member : List ℕ → List ℕ × Option Data → List ℕ
with_member taken (key, None) = taken
with_member taken (key, Some d) = ((taken ++ comma_if true) ++ (string_text key ++ codes ":")) ++ value_text d

abbrev pub with_members : List ℕ → List (List ℕ × Option Data) → List ℕ
with_members taken [] = taken
with_members taken (m ∷ ms) = with_members (with_member taken m) ms
