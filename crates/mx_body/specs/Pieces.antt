-- The canonical texts of the parts of a value, put together as it is read. Only the crate's private clauses cite it.
use Rattle.std.specs.Prelude.{◌≡◌, ℕ, ◌+◌, ◌-◌, ◌<◌, ◌≤◌, nat_le, Bool, true, if◌then◌else◌, List, [], ◌∷◌, ◌++◌, length, String, string_bytes, Vec, Option, Some, None, option_map, ⊤}
use Rattle.std.specs.declared.alloc.Global.{Global}
use Rattle.std.specs.BTreeMap.{BTreeMap}
use Rattle.json.specs.Token.{Token}
use Rattle.serde_json.specs.Data.{Data, Members, no_members, member}
use Rattle.serde_json.specs.Written.{compact_text, comma_if}
use Rattle.mx_canon.specs.Canonical.{is_canonical}
use Rattle.mx_body.specs.Bodies.{bytes_of}
use Rattle.mx_body.specs.Readable.{IsReadable}

-- the text of a canonical value; none of a value that is not canonical, or whose text is longer than the room
abbrev pub IsPieceOf : ℕ → Data → Option (List ℕ) → Type 0
IsPieceOf room d None = is_canonical d ≡ true → room < length (compact_text d)
IsPieceOf room d (Some text) = (is_canonical d ≡ true) × (text ≡ compact_text d)

-- what was read is a value and these tokens after it, and this is the value's text
pub record ReadsPiece (room : ℕ) (found : Option (Data × List Token)) (rest : List Token) (piece : Option (List ℕ)) : Type 0 where
  pub value : Data
  pub read : found ≡ Some (value, rest)
  pub readable : IsReadable value
  pub text : IsPieceOf room value piece

-- a text that fits
abbrev pub cut : ℕ → List ℕ → Option (List ℕ)
cut room text = if nat_le (length text) room then Some text else None

-- one item more, where it and those before it have texts
abbrev pub with_item : ℕ → Bool → Option (List ℕ) → Option (List ℕ) → Option (List ℕ)
with_item room later None item = None
with_item room later (Some text) None = None
with_item room later (Some text) (Some item) = cut room ((text ++ comma_if later) ++ item)

-- the end of an array
abbrev pub closed : Option (List ℕ) → Option (List ℕ)
closed None = None
closed (Some text) = Some (text ++ 93 ∷ [])

-- the room that a text leaves
abbrev pub room_after : Option (List ℕ) → ℕ → ℕ
room_after None room = 0
room_after (Some text) room = room - length text

-- ---- the members of an object, by key

abbrev pub Kept : Type 0
Kept = String Global × Option (Vec ℕ Global)

-- how many keys
abbrev pub count : Members → ℕ
count no_members = 0
count (member k d ms) = 1 + count ms

-- each member has its text
abbrev pub ArePiecesOf : ℕ → Members → List Kept → Type 0
ArePiecesOf room no_members [] = ⊤
ArePiecesOf room no_members (e ∷ es) = ⊥
ArePiecesOf room (member k d ms) [] = ⊥
ArePiecesOf room (member k d ms) (e ∷ es) =
    (string_bytes e.0 ≡ k) × IsPieceOf room d (bytes_of e.1) × ArePiecesOf room ms es

abbrev pub kept_of : Option (BTreeMap (String Global) (Option (Vec ℕ Global))) → Option (List Kept)
kept_of found = option_map (λ map. map.entries) found

-- each member has its text, or they are too many for the room: a member takes four bytes at least
abbrev pub AreKept : ℕ → Members → Option (List Kept) → Type 0
AreKept room ms None = room ≤ count ms
AreKept room ms (Some es) = ArePiecesOf (room - count ms) ms es

-- the room for one member more
abbrev pub room_beside : Option (List Kept) → ℕ → ℕ
room_beside None room = 0
room_beside (Some es) room = room - length es

-- the text of a piece, where it fits
abbrev pub within : ℕ → Option (List ℕ) → Option (List ℕ)
within room None = None
within room (Some text) = cut room text

-- a whole text was read to this value, and this is its text
pub record ReadsText (room : ℕ) (found : Option Data) (piece : Option (List ℕ)) : Type 0 where
  pub value : Data
  pub read : found ≡ Some value
  pub readable : IsReadable value
  pub text : IsPieceOf room value piece
