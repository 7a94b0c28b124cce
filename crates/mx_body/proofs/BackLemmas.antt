-- A canonical text is text, and is JSON for its value.
use Rattle.std.proofs.Common.{◌≡◌, ℕ, ◌≤◌, pos, negsuc, Bool, true, false, if◌then◌else◌, List, [], ◌∷◌, ◌++◌, Some, None, option_map, option_and_then, Less, Greater, nat_cmp, refl, sym, ap, ◌∙◌, subst, arith, append-nil, IsUtf8, leb-true}
use Rattle.std.proofs.lemmas.Bool.{and_parts}
use Rattle.std.proofs.lemmas.Cmp.{nat_list_cmp_total}
use Rattle.std.proofs.lemmas.Fmt.{IsAscii-decimal, IsAscii-signed}
use Rattle.std.proofs.lemmas.List.Folds.{list_all-append}
use Rattle.std.proofs.lemmas.Str.{IsUtf8-append, IsUtf8-nil, IsUtf8-from_ascii, is_utf8-from_IsUtf8}
use Rattle.std.specs.Cmp.Lexicographic.{slice_cmp}
use Rattle.std.specs.List.{AllByRecursion, list_all}
use Rattle.std.specs.List.Sorted.{IsStrictlySortedBy}
use Rattle.std.specs.Ordering.{ordering_reverse}
use Rattle.json.specs.Lex.{tokens}
use Rattle.json.specs.Json as json
use Rattle.json.specs.Print.{quoted, print, IsNumber}
use Rattle.json.specs.Tree as tree
use Rattle.json.specs.Tree.{json_tokens, HasNumbers, ItemsHaveNumbers, MembersHaveNumbers}
use Rattle.json.proofs.Printed.Decimals.{IsNumber-decimal, IsNumber-signed_decimal}
use Rattle.json.proofs.Printed.Trees.{document-print, value-json_tokens}
use Rattle.json.proofs.Printed.Utf8.{IsUtf8-are_ascii, IsUtf8-quoted}
use Rattle.json.proofs.Unique.Spelling.{tokens-document}
use Rattle.serde_json.specs.Data.{Num, unsigned, negative, float, Data, null, boolean, number, string, array, object, Items, no_items, item, Members, no_members, member, put, depth, items_depth, members_depth}
use Rattle.serde_json.specs.Read.{number_of, of_json, of_items, of_members, max_depth, read}
use Rattle.serde_json.specs.Written.{number_text, outline, items_outline, members_outline, comma_if, compact_text, items_text, members_text}
use Rattle.serde_json.proofs.Numbers.{number_of-decimal, number_of-negative}
use Rattle.serde_json.proofs.Texts.{print-outline}
use Rattle.mx_canon.specs.Canonical.{is_canonical, is_exact, numbers, item_numbers, member_numbers, canonical_text}
use Rattle.mx_canon.specs.KeyOrder.{keys}
use Rattle.mx_canon.proofs.TextLemmas.{canon_same}
use Rattle.mx_body.specs.Bodies.{json_of}
use Rattle.mx_body.specs.Readable.{IsInRange, IsReadable, AreReadable, HasReadable}
use Rattle.mx_body.proofs.GrammarLemmas.{whole}
use Rattle.mx_body.proofs.ReadableLemmas.{KeysRise-readable}

-- ---- numbers

number_back : (n : Num) → is_exact n ≡ true → IsInRange n → number_of (number_text n) ≡ Some n
number_back (unsigned n) e s = let le = leb-true n 9007199254740991 e in number_of-decimal n (omega arith)
number_back (negative (pos n)) e s = absurd (grind arith)
number_back (negative (negsuc n)) e s = number_of-negative n (grind arith)
number_back (float x) e s = cc

number_is : (n : Num) → is_exact n ≡ true → IsInRange n → IsNumber (number_text n)
number_is (unsigned n) e s = IsNumber-decimal n (grind arith)
number_is (negative (pos n)) e s = absurd (grind arith)
number_is (negative (negsuc n)) e s = IsNumber-signed_decimal (negsuc n) (grind arith)
number_is (float x) e s = cc

number_utf8 : (n : Num) → is_exact n ≡ true → IsInRange n → IsUtf8 (number_text n)
number_utf8 (unsigned n) e s = IsUtf8-from_ascii _ (IsAscii-decimal n (grind arith))
number_utf8 (negative (pos n)) e s = absurd (grind arith)
number_utf8 (negative (negsuc n)) e s = IsUtf8-from_ascii _ (IsAscii-signed (negsuc n) (grind arith))
number_utf8 (float x) e s = cc

both : (xs ys : List Num) → list_all is_exact (xs ++ ys) ≡ true → (list_all is_exact xs ≡ true) × (list_all is_exact ys ≡ true)
both xs ys h = and_parts (list_all is_exact xs) (list_all is_exact ys) (sym (list_all-append is_exact xs ys) ∙ h)

one : (n : Num) → list_all is_exact (n ∷ []) ≡ true → is_exact n ≡ true
one n h = (and_parts (is_exact n) true h).0

-- ---- members, one after another

after : Members → Members → Members
after no_members more = more
after (member k d ms) more = member k d (after ms more)

after-one : (old : Members) (k : List ℕ) (d : Data) (ms : Members) → after (after old (member k d no_members)) ms ≡ after old (member k d ms)
unfolding after
after-one no_members k d ms = refl
after-one (member l e old) k d ms = ap (member l e) (after-one old k d ms)

after-nothing : (old : Members) → old ≡ after old no_members
unfolding after
after-nothing no_members = refl
after-nothing (member l e old) = ap (member l e) (after-nothing old)

abbrev Rise : Members → Type 0
Rise ms = IsStrictlySortedBy (slice_cmp nat_cmp) (keys ms)

below_one : (l : List ℕ) (old : Members) (k : List ℕ) (d : Data) (ms : Members) → AllByRecursion (λ y. slice_cmp nat_cmp l y ≡ Less) (keys (after old (member k d ms))) → slice_cmp nat_cmp l k ≡ Less
unfolding after
below_one l no_members k d ms h = h.0
below_one l (member x e old) k d ms h = below_one l old k d ms h.1

-- a key above those before it goes last
put_last : (old : Members) (k : List ℕ) (d : Data) (ms : Members) → Rise (after old (member k d ms)) → put k d old ≡ after old (member k d no_members)
unfolding after IsStrictlySortedBy
put_last no_members k d ms h = refl
put_last (member l e old) k d ms h =
    let above : slice_cmp nat_cmp k l ≡ Greater = nat_list_cmp_total.antisymm k l ∙ ap ordering_reverse (below_one l old k d ms h.0) in
    rw above (ap (member l e) (put_last old k d ms h.1))

-- ---- the JSON that is written for a value is that value's

mutual
  unfolding after IsStrictlySortedBy

  back : (d : Data) → list_all is_exact (numbers d) ≡ true → IsReadable d → of_json (outline d) ≡ Some d
  back null c r = refl
  back (boolean b) c r = refl
  back (number n) c r = ap (option_map number) (number_back n (one n c) r)
  back (string s) c r = refl
  back (array ds) c r = ap (option_map array) (back_items ds c r)
  back (object ms) c r = ap (option_map object) (back_members no_members ms c r.0 r.1)

  back_items : (ds : Items) → list_all is_exact (item_numbers ds) ≡ true → AreReadable ds → of_items (items_outline ds) ≡ Some ds
  back_items no_items c r = refl
  back_items (item d ds) c r =
      let p = both (numbers d) (item_numbers ds) c in
      ap (option_and_then (λ e. option_map (item e) (of_items (items_outline ds)))) (back d p.0 r.0) ∙ ap (option_map (item d)) (back_items ds p.1 r.1)

  back_members : (old ms : Members) → list_all is_exact (member_numbers ms) ≡ true → Rise (after old ms) → HasReadable ms → of_members (members_outline ms) old ≡ Some (after old ms)
  back_members old no_members c s r = ap Some (after-nothing old)
  back_members old (member k d ms) c s r =
      let p = both (numbers d) (member_numbers ms) c in
      ap (option_and_then (λ e. of_members (members_outline ms) (put k e old))) (back d p.0 r.1)
      ∙ ap (of_members (members_outline ms)) (put_last old k d ms s)
      ∙ back_members (after old (member k d no_members)) ms p.1 (subst Rise (sym (after-one old k d ms)) s) r.2
      ∙ ap Some (after-one old k d ms)

mutual
  has_numbers : (d : Data) → list_all is_exact (numbers d) ≡ true → IsReadable d → HasNumbers (outline d)
  has_numbers null c r = tt
  has_numbers (boolean b) c r = tt
  has_numbers (number n) c r = number_is n (one n c) r
  has_numbers (string s) c r = tt
  has_numbers (array ds) c r = items_have_numbers ds c r
  has_numbers (object ms) c r = members_have_numbers ms c r.1

  items_have_numbers : (ds : Items) → list_all is_exact (item_numbers ds) ≡ true → AreReadable ds → ItemsHaveNumbers (items_outline ds)
  items_have_numbers no_items c r = tt
  items_have_numbers (item d ds) c r = let p = both (numbers d) (item_numbers ds) c in (has_numbers d p.0 r.0, items_have_numbers ds p.1 r.1)

  members_have_numbers : (ms : Members) → list_all is_exact (member_numbers ms) ≡ true → HasReadable ms → MembersHaveNumbers (members_outline ms)
  members_have_numbers no_members c r = tt
  members_have_numbers (member k d ms) c r = let p = both (numbers d) (member_numbers ms) c in (has_numbers d p.0 r.1, members_have_numbers ms p.1 r.2)

mutual
  depth_same : (d : Data) → tree.depth (outline d) ≤ depth d
  depth_same null = omega arith
  depth_same (boolean b) = omega arith
  depth_same (number n) = omega arith
  depth_same (string s) = omega arith
  depth_same (array ds) = omega (arith, items_depth_same ds)
  depth_same (object ms) = omega (arith, members_depth_same ms)

  items_depth_same : (ds : Items) → tree.items_depth (items_outline ds) ≤ items_depth ds
  items_depth_same no_items = omega arith
  items_depth_same (item d ds) = omega (arith, depth_same d, items_depth_same ds)

  members_depth_same : (ms : Members) → tree.members_depth (members_outline ms) ≤ members_depth ms
  members_depth_same no_members = omega arith
  members_depth_same (member k d ms) = omega (arith, depth_same d, members_depth_same ms)

compact-back : (d : Data) → is_canonical d ≡ true → IsReadable d → depth d ≤ max_depth → read (compact_text d) ≡ Some d
compact-back d c r shallow =
    let inner : tree.depth (outline d) ≤ 127 = omega (arith, depth_same d) in
    let spelled : tokens (compact_text d) ≡ json_tokens (outline d) =
    ap tokens (sym (print-outline d)) ∙ tokens-document (print (json_tokens (outline d))) (outline d) (document-print (outline d) (has_numbers d c r) (omega arith)) in
    ap whole (ap (json.value max_depth) (spelled ∙ sym (append-nil (json_tokens (outline d)))) ∙ value-json_tokens (outline d) max_depth [] inner) ∙ back d c r

-- ---- the text is UTF-8

comma_utf8 : (later : Bool) → IsUtf8 (comma_if later)
comma_utf8 true = IsUtf8-are_ascii (44 ∷ []) refl
comma_utf8 false = IsUtf8-nil

boolean_utf8 : (b : Bool) → IsUtf8 (compact_text (boolean b))
boolean_utf8 true = IsUtf8-are_ascii _ refl
boolean_utf8 false = IsUtf8-are_ascii _ refl

byte : (b : ℕ) (text : List ℕ) → IsUtf8 (b ∷ []) → IsUtf8 text → IsUtf8 (b ∷ text)
byte b text u v = IsUtf8-append (b ∷ []) text u v

mutual
  text_utf8 : (d : Data) → list_all is_exact (numbers d) ≡ true → IsReadable d → IsUtf8 (compact_text d)
  text_utf8 null c r = IsUtf8-are_ascii _ refl
  text_utf8 (boolean b) c r = boolean_utf8 b
  text_utf8 (number n) c r = number_utf8 n (one n c) r
  text_utf8 (string s) c r = IsUtf8-quoted s r
  text_utf8 (array ds) c r = byte 91 (items_text false ds) (IsUtf8-are_ascii (91 ∷ []) refl) (items_utf8 false ds c r)
  text_utf8 (object ms) c r = byte 123 (members_text false ms) (IsUtf8-are_ascii (123 ∷ []) refl) (members_utf8 false ms c r.1)

  items_utf8 : (later : Bool) (ds : Items) → list_all is_exact (item_numbers ds) ≡ true → AreReadable ds → IsUtf8 (items_text later ds)
  items_utf8 later no_items c r = IsUtf8-are_ascii (93 ∷ []) refl
  items_utf8 later (item d ds) c r =
      let p = both (numbers d) (item_numbers ds) c in
      IsUtf8-append (comma_if later) _ (comma_utf8 later) (IsUtf8-append (compact_text d) (items_text true ds) (text_utf8 d p.0 r.0) (items_utf8 true ds p.1 r.1))

  members_utf8 : (later : Bool) (ms : Members) → list_all is_exact (member_numbers ms) ≡ true → HasReadable ms → IsUtf8 (members_text later ms)
  members_utf8 later no_members c r = IsUtf8-are_ascii (125 ∷ []) refl
  members_utf8 later (member k d ms) c r =
      let p = both (numbers d) (member_numbers ms) c in
      let rest = IsUtf8-append (compact_text d) (members_text true ms) (text_utf8 d p.0 r.1) (members_utf8 true ms p.1 r.2) in
      IsUtf8-append (comma_if later) _ (comma_utf8 later) (IsUtf8-append (quoted k) _ (IsUtf8-quoted k r.0) (byte 58 _ (IsUtf8-are_ascii (58 ∷ []) refl) rest))

-- ---- the canonical text

pub canonical-compact : (d : Data) → IsReadable d → canonical_text d ≡ compact_text d
unfolding canonical_text
canonical-compact d r = canon_same d (KeysRise-readable d r)

pub canonical-back : (d : Data) → IsReadable d → is_canonical d ≡ true → depth d ≤ max_depth → json_of (canonical_text d) ≡ Some d
canonical-back d r c shallow =
    ap json_of (canonical-compact d r)
    ∙ ap (λ b. if b then read (compact_text d) else None) (is_utf8-from_IsUtf8 (compact_text d) (text_utf8 d c r))
    ∙ compact-back d c r shallow
