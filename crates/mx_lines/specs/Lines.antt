-- Lines of JSON (docs/AUDIT.md): the canonical text of an object, and a newline.
use Rattle.std.specs.Prelude.{ℕ, List, [], ◌∷◌, ◌++◌, codes, Option, None, Some}
use Rattle.serde_json.specs.Data.{Data, null, string, array, object, Items, no_items, item, Members, no_members, member}
use Rattle.mx_canon.specs.Canonical.{canonical_text}

-- the members that are there, of keys with what may stand at each
abbrev pub present : List (List ℕ × Option Data) → Members
present [] = no_members
present ((key, None) ∷ rest) = present rest
present ((key, Some d) ∷ rest) = member key d (present rest)

unfoldable pub line_of : List (List ℕ × Option Data) → List ℕ
line_of members = canonical_text (object (present members)) ++ codes "\n"

abbrev pub text_or_null : Option (List ℕ) → Data
text_or_null None = null
text_or_null (Some s) = string s

abbrev pub text_items : List (List ℕ) → Items
text_items [] = no_items
text_items (s ∷ ss) = item (string s) (text_items ss)

abbrev pub text_array : List (List ℕ) → Data
text_array ss = array (text_items ss)
