-- What was read of a transaction so far. Only the crate's private clauses cite it.
use Rattle.std.specs.Prelude.{◌≡◌, ℕ, ◌<◌, ◌≤◌, List, [], ◌∷◌, codes, length, Vec, Option, Some, None, option_map, option_and_then}
use Rattle.std.specs.declared.alloc.Global.{Global}
use Rattle.json.specs.Token.{Token}
use Rattle.serde_json.specs.Data.{Data, Members, object, put}
use Rattle.serde_json.specs.Find.{get_member}
use Rattle.mx_redact.specs.Fields.{is_none_or}
use Rattle.mx_body.specs.Bodies.{entries_up_to, is_array_up_to, pdus_in, texts_of, texts_within}
use Rattle.mx_body.specs.Readable.{IsReadable}
use Rattle.mx_body.specs.declared.entries.Entries.{Entries}
use Rattle.mx_body.specs.declared.transactions.Parts.{Parts}

abbrev pub texts_in : Option (Vec (Vec ℕ Global) Global) → Option (List (List ℕ))
texts_in texts = option_map (λ all. texts_of all.items) texts

-- ---- the entries of an array

-- the texts of these entries, or they are too many
abbrev pub AreEntries : ℕ → ℕ → List Data → Option Entries → Type 0
AreEntries most largest ds None = most < length ds
AreEntries most largest ds (Some found) =
    (found.count ≡ length ds) × (length ds ≤ most) × (texts_of found.texts.items ≡ texts_within largest ds)

-- the room for one entry more
abbrev pub entry_room : Option Entries → ℕ → ℕ
entry_room None largest = 0
entry_room (Some found) largest = largest

abbrev pub entry_texts : Option Entries → Option (List (List ℕ))
entry_texts found = option_map (λ entries. texts_of entries.texts.items) found

abbrev pub listed : Option (List ℕ) → List (List ℕ)
listed None = []
listed (Some text) = text ∷ []

-- what was read is a value, and these are the texts of its entries
pub record ReadsEntries (most largest : ℕ) (found : Option (Data × List Token)) (rest : List Token) (texts : Option (List (List ℕ))) : Type 0 where
  pub value : Data
  pub read : found ≡ Some (value, rest)
  pub readable : IsReadable value
  pub texts_are : texts ≡ option_map (texts_within largest) (entries_up_to most value)

-- ---- the members of a transaction

-- what these members say
pub record AreParts (largest : ℕ) (ms : Members) (parts : Parts) : Type 0 where
  pub pdus : texts_in parts.pdus ≡ option_map (texts_within largest) (option_and_then (entries_up_to 50) (get_member (codes "pdus") ms))
  pub edus : parts.has_few_edus ≡ is_none_or (is_array_up_to 100) (get_member (codes "edus") ms)

-- what was read is the value of one member more
pub record ReadsPart (largest : ℕ) (key : List ℕ) (before after : Parts) (found : Option (Data × List Token)) (rest : List Token) : Type 0 where
  pub value : Data
  pub read : found ≡ Some (value, rest)
  pub readable : IsReadable value
  pub parts : (ms : Members) → AreParts largest ms before → AreParts largest (put key value ms) after

-- what was read is an object
pub record ReadsParts (largest : ℕ) (parts : Parts) (found : Option (Data × List Token)) (rest : List Token) : Type 0 where
  pub members : Members
  pub read : found ≡ Some (object members, rest)
  pub readable : IsReadable (object members)
  pub parts_are : AreParts largest members parts

-- ---- the whole

-- a value was read, and these are the texts of its PDUs
pub record ReadsTexts (largest : ℕ) (found : Option (Data × List Token)) (rest : List Token) (texts : Option (List (List ℕ))) : Type 0 where
  pub value : Data
  pub read : found ≡ Some (value, rest)
  pub readable : IsReadable value
  pub texts_are : texts ≡ option_map (texts_within largest) (pdus_in value)

-- a whole text was read to this value
pub record ReadsTransaction (largest : ℕ) (found : Option Data) (texts : Option (List (List ℕ))) : Type 0 where
  pub value : Data
  pub read : found ≡ Some value
  pub readable : IsReadable value
  pub texts_are : texts ≡ option_map (texts_within largest) (pdus_in value)
