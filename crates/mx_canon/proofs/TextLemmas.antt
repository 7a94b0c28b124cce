-- The canonical text is the compact text that serde_json writes.
use Rattle.std.proofs.Common.{◌≡◌, ℕ, List, [], ◌∷◌, ◌++◌, true, false, refl, sym, ap, ap₂, ◌∙◌, append_assoc, arith}
use Rattle.std.specs.List.{join_with_byte, flat_map}
use Rattle.json.specs.Print.{escape_byte, quoted}
use Rattle.serde_json.specs.Data.{Num, unsigned, negative, float, Data, null, boolean, number, string, array, object, Items, no_items, item, Members, no_members, member}
use Rattle.serde_json.specs.Written.{compact_text, items_text, members_text, number_text}
use Rattle.std.specs.List.{AllByRecursion}
use Rattle.std.specs.List.Sorted.{IsStrictlySortedBy}
use Rattle.std.specs.BTreeMap.{insert_entry}
use Rattle.std.proofs.Common.{map, Less}
use Rattle.mx_canon.specs.KeyOrder.{text_cmp, keys, KeysRise, KeysRiseInItems, KeysRiseInMembers}
use Rattle.mx_canon.specs.Canonical.{escaped, string_text, integer_text, value_text, item_texts, member_text, sorted_members}

escaped_same : (b : ℕ) → escaped b ≡ escape_byte b
unfolding escape_byte
escaped_same b = grind arith

pub flat_map_escaped : (s : List ℕ) → flat_map escaped s ≡ flat_map escape_byte s
flat_map_escaped [] = refl
flat_map_escaped (b ∷ s) = ap₂ (λ x y. x ++ y) (escaped_same b) (flat_map_escaped s)

pub quotation_same : (s : List ℕ) → string_text s ≡ quoted s
quotation_same s = ap (λ e. 34 ∷ (e ++ 34 ∷ [])) (flat_map_escaped s)

numeral_same : (n : Num) → integer_text n ≡ number_text n
numeral_same (unsigned n) = refl
numeral_same (negative z) = refl
numeral_same (float x) = refl

-- the pieces, each after a comma
abbrev after_commas : List (List ℕ) → List ℕ
after_commas = flat_map (λ piece. 44 ∷ piece)

joined : (x : List ℕ) (ys : List (List ℕ)) (end : List ℕ) → join_with_byte 44 (x ∷ ys) ++ end ≡ x ++ (after_commas ys ++ end)
joined x [] end = refl
joined x (y ∷ ys) end =
    append_assoc x (44 ∷ join_with_byte 44 (y ∷ ys)) end ∙ ap (λ t. x ++ 44 ∷ t) (joined y ys end ∙ sym (append_assoc y (after_commas ys) end))

-- a key below the others goes first
pub entries-first : (k v : List ℕ) (ms : Members) → AllByRecursion (λ l. text_cmp k l ≡ Less) (keys ms) → IsStrictlySortedBy text_cmp (keys ms)
    → insert_entry text_cmp (sorted_members ms) k v ≡ (k, v) ∷ sorted_members ms
unfolding IsStrictlySortedBy
entries-first k v no_members below rise = refl
entries-first k v (member l d ms) below rise =
    let here = entries-first l (value_text d) ms rise.0 rise.1 in
    let first : insert_entry text_cmp ((l, value_text d) ∷ sorted_members ms) k v ≡ (k, v) ∷ (l, value_text d) ∷ sorted_members ms = rw below.0 refl in
    ap (λ es. insert_entry text_cmp es k v) here ∙ first ∙ ap (λ es. (k, v) ∷ es) (sym here)

mutual
  unfolding IsStrictlySortedBy

  pub canon_same : (d : Data) → KeysRise d → value_text d ≡ compact_text d
  canon_same null rise = refl
  canon_same (boolean true) rise = refl
  canon_same (boolean false) rise = refl
  canon_same (number n) rise = numeral_same n
  canon_same (string s) rise = quotation_same s
  canon_same (array ds) rise = ap (λ t. 91 ∷ t) (items_same ds rise)
  canon_same (object ms) rise = ap (λ t. 123 ∷ t) (members_same ms rise.0 rise.1)

  items_same : (ds : Items) → KeysRiseInItems ds → join_with_byte 44 (item_texts ds) ++ 93 ∷ [] ≡ items_text false ds
  items_same no_items rise = refl
  items_same (item d ds) rise = joined (value_text d) (item_texts ds) (93 ∷ []) ∙ ap₂ (λ x y. x ++ y) (canon_same d rise.0) (items_later ds rise.1)

  items_later : (ds : Items) → KeysRiseInItems ds → after_commas (item_texts ds) ++ 93 ∷ [] ≡ items_text true ds
  items_later no_items rise = refl
  items_later (item d ds) rise =
      append_assoc (44 ∷ value_text d) (after_commas (item_texts ds)) (93 ∷ []) ∙ ap₂ (λ x y. 44 ∷ (x ++ y)) (canon_same d rise.0) (items_later ds rise.1)

  members_same : (ms : Members) → IsStrictlySortedBy text_cmp (keys ms) → KeysRiseInMembers ms → join_with_byte 44 (map member_text (sorted_members ms)) ++ 125 ∷ [] ≡ members_text false ms
  members_same no_members sorted rise = refl
  members_same (member k d ms) sorted rise =
      ap (λ es. join_with_byte 44 (map member_text es) ++ 125 ∷ []) (entries-first k (value_text d) ms sorted.0 sorted.1)
      ∙ joined (string_text k ++ 58 ∷ value_text d) (map member_text (sorted_members ms)) (125 ∷ [])
      ∙ append_assoc (string_text k) (58 ∷ value_text d) _
      ∙ ap₂ (λ x t. x ++ 58 ∷ t) (quotation_same k) (ap₂ (λ y z. y ++ z) (canon_same d rise.0) (members_later ms sorted.1 rise.1))

  members_later : (ms : Members) → IsStrictlySortedBy text_cmp (keys ms) → KeysRiseInMembers ms → after_commas (map member_text (sorted_members ms)) ++ 125 ∷ [] ≡ members_text true ms
  members_later no_members sorted rise = refl
  members_later (member k d ms) sorted rise =
      ap (λ es. after_commas (map member_text es) ++ 125 ∷ []) (entries-first k (value_text d) ms sorted.0 sorted.1)
      ∙ append_assoc (44 ∷ (string_text k ++ 58 ∷ value_text d)) (after_commas (map member_text (sorted_members ms))) (125 ∷ [])
      ∙ append_assoc (44 ∷ string_text k) (58 ∷ value_text d) _
      ∙ ap₂ (λ x t. 44 ∷ (x ++ 58 ∷ t)) (quotation_same k) (ap₂ (λ y z. y ++ z) (canon_same d rise.0) (members_later ms sorted.1 rise.1))
