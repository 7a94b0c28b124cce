-- What the file of a server's directory says that it was made for.
use Rattle.std.specs.Prelude.{◌≡◌, ℕ, ◌==◌, Bool, ◌&&◌, List, codes, Option, option_and_then, option_map, unwrap_or, Some, ◌++◌, string_bytes, IsUtf8}
use Rattle.serde_json.specs.Data.{Data, number, unsigned, string, object, no_members, member}
use Rattle.serde_json.specs.Read.{read}
use Rattle.serde_json.specs.Written.{compact_text}
use Rattle.mx_directory.specs.declared.made_for.MadeFor.{MadeFor}
use Rattle.serde_json.specs.Find.{get, as_number, as_str, as_u64}

-- the name of a server, how many shards it has, and the layout of its files
abbrev pub Made : Type 0
Made = List ℕ × ℕ × ℕ

-- the layout that files are brought to
abbrev pub current_layout : ℕ
current_layout = 2

abbrev pub count_in : List ℕ → Data → Option ℕ
count_in key d = option_and_then as_u64 (option_and_then as_number (get key d))

-- how many rows the file `rows.json` says that a file had: 0 where it does not say so
abbrev pub rows_before : List ℕ → Data → ℕ
rows_before file d = unwrap_or (count_in file d) 0

-- what a value of JSON says so, if it says all of it
abbrev pub made_in : Data → Option Made
made_in d =
    option_and_then (λ name. option_and_then (λ shards. option_map (λ layout. (name, shards, layout))
    (count_in (codes "layout") d)) (count_in (codes "shards") d)) (option_and_then as_str (get (codes "name") d))

-- the value that says so
abbrev pub made_value : List ℕ → ℕ → Data
made_value name shards =
    object (member (codes "layout") (number (unsigned current_layout)) (member (codes "name") (string name)
    (member (codes "shards") (number (unsigned shards)) no_members)))

-- the line that says so
abbrev pub made_line : List ℕ → ℕ → List ℕ
made_line name shards = compact_text (made_value name shards) ++ codes "\n"

-- what was read
abbrev pub shown : MadeFor → Made
shown it = (string_bytes it.name, it.shards, it.layout)

-- a server of so many shards has such files
abbrev pub has_shards : ℕ → Made → Bool
has_shards shards made = (made.1 == shards) && (made.2 == current_layout)

-- the bytes are UTF-8, and JSON for this value (RFC 8259)
abbrev pub IsJsonFor : Data → List ℕ → Type 0
IsJsonFor d bytes = IsUtf8 bytes × (read bytes ≡ Some d)
