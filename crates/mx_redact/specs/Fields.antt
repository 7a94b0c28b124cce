-- Values in a JSON object.
use Rattle.std.specs.Prelude.{ℕ, Bool, true, false, List, [], ◌∷◌, codes, bytes_eq, filter_map, Option, unwrap_or, option_map, option_and_then, is_some}
use Prim.Native.String.{String}
use Rattle.serde_json.specs.Data.{Data, null, Items, no_items, item, Members, no_members, member}
use Rattle.serde_json.specs.Find.{get, as_str, as_array, as_object}
use Rattle.mx_ident.specs.Identifier.{parts}

-- an event is a JSON object (Matrix specification, Room Version 6, event format)
abbrev pub Event : Type 0
Event = Data

abbrev pub field : List ℕ → Data → Option Data
field key d = get key d

-- the text at a key
abbrev pub text_field : List ℕ → Data → Option (List ℕ)
text_field key d = option_and_then as_str (field key d)

-- the text at a key, else the empty text
abbrev pub text_at : List ℕ → Data → List ℕ
text_at key d = unwrap_or (text_field key d) []

abbrev pub item_list : Items → List Data
item_list no_items = []
item_list (item d ds) = d ∷ item_list ds

abbrev pub keys_of : Members → List (List ℕ)
keys_of no_members = []
keys_of (member key d ms) = key ∷ keys_of ms

-- the texts in the array at a key
abbrev pub texts_at : List ℕ → Data → List (List ℕ)
texts_at key d = filter_map as_str (item_list (unwrap_or (option_and_then as_array (field key d)) no_items))

-- the value at a key, else null, in which no key is found
abbrev pub value_at : List ℕ → Data → Data
value_at key d = unwrap_or (field key d) null

abbrev pub is_object : Data → Bool
is_object d = is_some (as_object d)

-- the members of an object; another value has none
abbrev pub members_of : Data → Members
members_of d = unwrap_or (as_object d) no_members

-- the keys of an object
abbrev pub object_keys : Data → List (List ℕ)
object_keys d = keys_of (members_of d)

-- there is a value, and it passes a test
abbrev pub is_some_and : {A : Type 0} → (A → Bool) → Option A → Bool
is_some_and test o = unwrap_or (option_map test o) false

-- there is no value, or it passes a test
abbrev pub is_none_or : {A : Type 0} → (A → Bool) → Option A → Bool
is_none_or test o = unwrap_or (option_map test o) true

-- texts with one space between them, for tables of names
abbrev pub words : String → List (List ℕ)
words s = parts 32 (codes s)

-- the text is there, and is this one
abbrev pub is_text : List ℕ → Option (List ℕ) → Bool
is_text s o = is_some_and (λ t. bytes_eq t s) o

-- an event's type (Matrix specification, Server-Server API, PDUs)
abbrev pub kind : Event → List ℕ
kind e = text_at (codes "type") e
