-- The canonical text of a value whose keys come in order, put together as it is read. Only the crate's private clauses cite it.
use Rattle.std.specs.Prelude.{◌≡◌, ℕ, Bool, true, List, [], ◌∷◌, ◌++◌, Option, Some, None, ⊤}
use Rattle.std.specs.Cmp.Lexicographic.{slice_cmp}
use Rattle.std.specs.Ordering.{nat_cmp}
use Rattle.std.specs.declared.cmp.Ordering.TheVariants.{Less}
use Rattle.json.specs.Print.{quoted}
use Rattle.json.specs.Token.{Token}
use Rattle.json.specs.Tree.{json_tokens}
use Rattle.json.specs.Written.{Written}
use Rattle.serde_json.specs.Data.{Data, string, Items, no_items, item, Members, no_members, member}
use Rattle.serde_json.specs.Written.{compact_text, comma_if, outline}
use Rattle.mx_canon.specs.Canonical.{is_canonical, canonical_text}
use Rattle.mx_body.specs.Readable.{IsReadable}

-- what was read is this value, which is canonical, and these tokens after it
pub record ReadsCanonical (value : Data) (found : Option (Data × List Token)) (rest : List Token) : Type 0 where
  pub read : found ≡ Some (value, rest)
  pub readable : IsReadable value
  pub canonical : is_canonical value ≡ true

-- it was read, and its canonical text was appended
abbrev pub IsAppended : Data → Option (Data × List Token) → List Token → List ℕ → List ℕ → Type 0
IsAppended value found rest before after =
    ReadsCanonical value found rest × (after ≡ before ++ canonical_text value)

-- some value was
abbrev pub Appends : Option (Data × List Token) → List Token → List ℕ → List ℕ → Type 0
Appends found rest before after = (value : Data) × IsAppended value found rest before after

-- ---- the members of an object, up to the closing brace

-- a comma stands before the next member
abbrev pub has_comma : Bool → Members → Bool
has_comma later no_members = later
has_comma later (member k d ms) = true

-- what stands before the value of a member
abbrev pub key_text : Bool → List ℕ → List ℕ
key_text later k = comma_if later ++ (quoted k ++ 58 ∷ [])

abbrev pub open_text : Bool → Members → List ℕ
open_text later no_members = []
open_text later (member k d ms) = key_text later k ++ (compact_text d ++ open_text true ms)

abbrev pub open_tokens : Members → List Token
open_tokens no_members = []
open_tokens (member k d ms) = Token.key k ∷ (json_tokens (outline d) ++ open_tokens ms)

-- the key stands behind the last one before it, where there is one
abbrev pub IsAbove : List ℕ → Option (List ℕ) → Type 0
IsAbove k None = ⊤
IsAbove k (Some last) = slice_cmp nat_cmp last k ≡ Less

-- a writer was given these tokens more
abbrev pub WritesTokens : Written → Written → List Token → Type 0
WritesTokens old new tokens = (new.before ≡ old.before) × (new.tokens ≡ old.tokens ++ tokens)

-- ---- an array of strings

abbrev pub strings : List (List ℕ) → Items
strings [] = no_items
strings (s ∷ ss) = item (string s) (strings ss)
