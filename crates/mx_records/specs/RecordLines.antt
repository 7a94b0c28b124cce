-- The line of a record, as JSON and as text (docs/OPERATION.md).
use Rattle.std.specs.Prelude.{ℕ, List, ◌∷◌, ◌++◌, codes, flat_map}
use Rattle.serde_json.specs.Data.{number, unsigned}
use Rattle.mx_canon.specs.Canonical.{canonical_text}
use Rattle.log.specs.Level.{level_name}
use Rattle.mx_records.specs.Members.{json_member, plain_member, text_at}
use Rattle.mx_records.specs.Records.{kind_text, level_of, subject_members}
use Rattle.mx_records.specs.declared.records.Subject.{Subject}

-- an object: the moment in milliseconds since 1970, the level, the kind, and what is told
abbrev pub json_line : (at : ℕ) → Subject → List ℕ
json_line at s =
    codes "{\"at\":" ++ (canonical_text (number (unsigned at))
    ++ (flat_map json_member (text_at (codes "level") (level_name (level_of s)) ∷ text_at (codes "kind") (kind_text s) ∷ subject_members s)
    ++ codes "}\n"))

-- the moment's text, the level, the kind, and what is told
abbrev pub plain_line : (moment : List ℕ) → Subject → List ℕ
plain_line moment s =
    moment ++ (codes " " ++ (level_name (level_of s) ++ (codes " " ++ (kind_text s
    ++ (flat_map plain_member (subject_members s) ++ codes "\n")))))
