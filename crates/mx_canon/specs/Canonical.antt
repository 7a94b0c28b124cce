-- Canonical JSON (Matrix specification, appendix "Canonical JSON"): which values have it, and its text.
use Rattle.std.specs.Prelude.{ℕ, ◌-◌, ◌/◌, ◌%◌, ◌^◌, ◌==◌, nat_abs, nat_le, nat_lt, ℤ, Bool, true, false, ◌||◌, if◌then◌else◌, List, [], ◌∷◌, ◌++◌, map, flat_map, decimal, codes, Option, Some, None}
use Rattle.std.specs.Char.{digit_char}
use Rattle.std.specs.Fmt.{signed_decimal}
use Rattle.std.specs.List.{list_all, list_any, join_with_byte}
use Rattle.std.specs.BTreeMap.{insert_entry}
use Rattle.serde_json.specs.Data.{Num, unsigned, negative, float, Data, null, boolean, number, string, array, object, Items, no_items, item, Members, no_members, member}
use Rattle.serde_json.specs.Find.{is_float}
use Rattle.mx_canon.specs.KeyOrder.{text_cmp}
use Rattle.mx_canon.specs.declared.checking.NotCanonical.{NotCanonical}
use Rattle.mx_canon.specs.declared.checking.NotCanonical.TheVariants.{Float, Range}

-- ---- which values have a canonical text: numbers are integers from -(2^53 - 1) to 2^53 - 1

-- every number in a value, from left to right
abbrev mutual
  pub numbers : Data → List Num
  numbers null = []
  numbers (boolean b) = []
  numbers (number n) = n ∷ []
  numbers (string s) = []
  numbers (array ds) = item_numbers ds
  numbers (object ms) = member_numbers ms

  pub item_numbers : Items → List Num
  item_numbers no_items = []
  item_numbers (item d ds) = numbers d ++ item_numbers ds

  pub member_numbers : Members → List Num
  member_numbers no_members = []
  member_numbers (member k d ms) = numbers d ++ member_numbers ms

-- the largest integer; the smallest is its negation
abbrev pub largest : ℕ
largest = 2 ^ 53 - 1

abbrev pub in_range : ℤ → Bool
in_range z = nat_le (nat_abs z) largest

-- an integer in range; a number that is held as no 64-bit integer, as 1.0, 1e2 and -0, is none
abbrev pub is_exact : Num → Bool
is_exact (unsigned n) = nat_le n largest
is_exact (negative z) = in_range z
is_exact (float x) = false

abbrev pub is_canonical : Data → Bool
is_canonical d = list_all is_exact (numbers d)

-- why a value has no canonical text: a float goes before an integer out of range
abbrev pub canonical_error : Data → Option NotCanonical
canonical_error d =
    if list_any is_float (numbers d) then Some Float else (if is_canonical d then None else Some Range)

-- ---- the text: the shortest UTF-8 JSON, the keys of each object in the order of their code points

-- what stands in a string for a byte: \" \\ \b \t \n \f \r, \u00 and two digits for another control, else the byte
abbrev pub escaped : ℕ → List ℕ
escaped b =
    if b == 34 || b == 92 then 92 ∷ b ∷ [] else (
    if b == 8 then codes "\\b" else (
    if b == 9 then codes "\\t" else (
    if b == 10 then codes "\\n" else (
    if b == 12 then codes "\\f" else (
    if b == 13 then codes "\\r" else (
    if nat_lt b 32 then codes "\\u00" ++ digit_char (b / 16) ∷ digit_char (b % 16) ∷ [] else b ∷ []))))))

abbrev pub string_text : List ℕ → List ℕ
string_text s = codes "\"" ++ (flat_map escaped s ++ codes "\"")

-- an integer in decimal; a float has no canonical text
abbrev pub integer_text : Num → List ℕ
integer_text (unsigned n) = decimal n
integer_text (negative z) = signed_decimal z
integer_text (float x) = []

-- a member, from its key and its value's text
abbrev pub member_text : List ℕ × List ℕ → List ℕ
member_text m = string_text m.0 ++ (codes ":" ++ m.1)

abbrev mutual
  pub value_text : Data → List ℕ
  value_text null = codes "null"
  value_text (boolean true) = codes "true"
  value_text (boolean false) = codes "false"
  value_text (number n) = integer_text n
  value_text (string s) = string_text s
  value_text (array ds) = codes "[" ++ (join_with_byte 44 (item_texts ds) ++ codes "]")
  value_text (object ms) = codes "{" ++ (join_with_byte 44 (map member_text (sorted_members ms)) ++ codes "}")

  pub item_texts : Items → List (List ℕ)
  item_texts no_items = []
  item_texts (item d ds) = value_text d ∷ item_texts ds

  -- each key with its value's text, in the order of the keys
  pub sorted_members : Members → List (List ℕ × List ℕ)
  sorted_members no_members = []
  sorted_members (member k d ms) = insert_entry text_cmp (sorted_members ms) k (value_text d)

unfoldable pub canonical_text : Data → List ℕ
canonical_text d = value_text d
