-- An entry of the page's data as JSON, of its parts (docs/AUDIT.md).
use Rattle.std.specs.Prelude.{ℕ, suc, ◌==◌, ◌-◌, Bool, if◌then◌else◌, List, [], ◌∷◌, ◌++◌, codes, decimal, flat_map, length, take, Option, None, Some}
use Rattle.serde_json.specs.Data.{Data, null, number, unsigned, string, array, Items, no_items, item}
use Rattle.mx_canon.specs.Canonical.{value_text}
use Rattle.mx_canon.specs.Pieces.{comma_if}
use Rattle.mx_page.specs.Changes.{Change}

-- ---- changes of a state

-- the place of an event in the order of arrival, from 1
abbrev pub place_data : Option ℕ → Data
place_data None = null
place_data (Some p) = number (unsigned (suc p))

-- a type, a state key and the place of the event that stands there now
abbrev pub change_data : Change → Data
change_data c = array (item (string c.0.0) (item (string c.0.1) (item (place_data c.1) no_items)))

abbrev pub changes_items : List Change → Items
changes_items [] = no_items
changes_items (c ∷ cs) = item (change_data c) (changes_items cs)

abbrev pub changes_text : List Change → List ℕ
changes_text cs = value_text (array (changes_items cs))

-- ---- an entry

-- the member with the place of the first prev event
abbrev pub base_text : Option ℕ → List ℕ
base_text None = []
base_text (Some q) = codes ",\"base\":" ++ decimal (suc q)

-- a text without its last byte, which ends its last line
abbrev pub without_end : List ℕ → List ℕ
without_end text = take (length text - 1) text

abbrev pub comma_for : ℕ → List ℕ
comma_for b = if b == 10 then 44 ∷ [] else b ∷ []

-- lines as the items of an array: a comma stands for each newline but the last
abbrev pub items_text : List ℕ → List ℕ
items_text lines = flat_map comma_for (without_end lines)

-- the member with a resolution, where there is one
abbrev pub resolution_member : Option (List ℕ) → List ℕ
resolution_member None = []
resolution_member (Some lines) = codes ",\"resolution\":[" ++ (items_text lines ++ codes "]")

-- an entry, from its parts
abbrev pub entry_of : Bool → List Change → Option ℕ → List Change → List ℕ → Option (List ℕ) → List ℕ
entry_of later after base before line resolution =
    comma_if later ++ (codes "{\"after\":" ++ (changes_text after ++ (base_text base ++ (codes ",\"before\":" ++ (changes_text before
    ++ (codes ",\"line\":" ++ (without_end line ++ (resolution_member resolution ++ codes "}\n"))))))))
