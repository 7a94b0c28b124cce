-- The lines that `check` prints.
use Rattle.std.specs.Prelude.{ℕ, Bool, List, ◌++◌, codes, if◌then◌else◌}

-- the id, whether the content hash holds, and the canonical text
abbrev pub check_lines : List ℕ → Bool → List ℕ → List ℕ
check_lines id holds text =
    codes "id " ++ (id ++ (codes "\nhash " ++ ((if holds then codes "good" else codes "bad")
    ++ (codes "\ncanonical " ++ (text ++ codes "\n")))))
