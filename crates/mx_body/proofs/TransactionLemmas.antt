-- The texts of a transaction's events read as the events.
use Rattle.std.proofs.Common.{◌≡◌, ℕ, ◌≤◌, nat_le, Bool, true, false, if◌then◌else◌, List, [], ◌∷◌, length, map, filter, Option, Some, None, option_map, option_and_then, codes, Ordering, Less, Equal, Greater, nat_cmp, refl, ap, ap₂, ◌∙◌, arith, IfSome, Vec, Global}
use Rattle.std.proofs.lemmas.Bool.{and_parts}
use Rattle.std.specs.Cmp.Lexicographic.{slice_cmp}
use Rattle.std.specs.List.{AllByRecursion, cons_option}
use Rattle.std.specs.Ordering.{match_ordering}
use Rattle.serde_json.specs.Data.{Data, null, boolean, number, string, array, object, Items, no_items, item, Members, no_members, member, depth, items_depth, members_depth}
use Rattle.serde_json.specs.Find.{get_member}
use Rattle.serde_json.specs.Read.{max_depth}
use Rattle.mx_canon.specs.Canonical.{canonical_text}
use Rattle.mx_redact.specs.Fields.{field, is_none_or, item_list}
use Rattle.mx_body.specs.Bodies.{entries_up_to, has_text_within, is_array_up_to, json_of, pdus_in, texts_of, texts_within}
use Rattle.mx_body.specs.Readable.{IsReadable, AreReadable, HasReadable}
use Rattle.mx_body.specs.Transactions.{texts_in}
use Rattle.mx_body.proofs.BackLemmas.{canonical-back}

-- a value whose canonical text reads back
abbrev Backs : Data → Type 0
Backs d = IsReadable d × (depth d ≤ max_depth)

-- ---- in one list

back_at : (n : ℕ) (d : Data) (ds : List Data) (b : Bool) → has_text_within n d ≡ b → Backs d → map json_of (texts_within n ds) ≡ map Some (filter (has_text_within n) ds)
    → map json_of (cons_option (if b then Some (canonical_text d) else None) (texts_within n ds)) ≡ map Some (if b then d ∷ filter (has_text_within n) ds else filter (has_text_within n) ds)
back_at n d ds true is backs rest = ap₂ (λ x xs. x ∷ xs) (canonical-back d backs.0 (and_parts _ _ is).0 backs.1) rest
back_at n d ds false is backs rest = rest

all_back : (n : ℕ) (ds : List Data) → AllByRecursion Backs ds → map json_of (texts_within n ds) ≡ map Some (filter (has_text_within n) ds)
all_back n [] h = refl
all_back n (d ∷ ds) h = back_at n d ds (has_text_within n d) refl h.0 (all_back n ds h.1)

-- ---- the entries of a value that was read

items_back : (ds : Items) → AreReadable ds → items_depth ds ≤ max_depth → AllByRecursion Backs (item_list ds)
items_back no_items r h = tt
items_back (item d ds) r h = ((r.0, omega arith), items_back ds r.1 (omega arith))

member-at : (o : Ordering) (d : Data) (rest : Option Data) → Backs d → IfSome rest Backs → IfSome (match_ordering o rest (Some d) rest) Backs
member-at Less d rest h k = k
member-at Equal d rest h k = h
member-at Greater d rest h k = k

member_back : (key : List ℕ) (ms : Members) → HasReadable ms → members_depth ms ≤ max_depth → IfSome (get_member key ms) Backs
member_back key no_members r h = tt
member_back key (member l d ms) r h = member-at (slice_cmp nat_cmp key l) d (get_member key ms) (r.1, omega arith) (member_back key ms r.2 (omega arith))

field_back : (key : List ℕ) (d : Data) → Backs d → IfSome (field key d) Backs
field_back key null h = tt
field_back key (boolean b) h = tt
field_back key (number n) h = tt
field_back key (string s) h = tt
field_back key (array ds) h = tt
field_back key (object ms) h = member_back key ms h.0.1 (omega (arith, h.1))

listed_back : (b : Bool) (ds : Items) → Backs (array ds) → IfSome (if b then Some (item_list ds) else None) (AllByRecursion Backs)
listed_back true ds h = items_back ds h.0 (omega (arith, h.1))
listed_back false ds h = tt

entries_back : (n : ℕ) (d : Data) → Backs d → IfSome (entries_up_to n d) (AllByRecursion Backs)
entries_back n null h = tt
entries_back n (boolean b) h = tt
entries_back n (number m) h = tt
entries_back n (string s) h = tt
entries_back n (array ds) h = listed_back (nat_le (length (item_list ds)) n) ds h
entries_back n (object ms) h = tt

then_entries : (n : ℕ) (o : Option Data) → IfSome o Backs → IfSome (option_and_then (entries_up_to n) o) (AllByRecursion Backs)
then_entries n None h = tt
then_entries n (Some d) h = entries_back n d h

if_few : (b : Bool) (o : Option (List Data)) → IfSome o (AllByRecursion Backs) → IfSome (if b then o else None) (AllByRecursion Backs)
if_few true o h = h
if_few false o h = tt

pdus_back : (d : Data) → Backs d → IfSome (pdus_in d) (AllByRecursion Backs)
pdus_back d h =
    if_few (is_none_or (is_array_up_to 100) (field (codes "edus") d)) (option_and_then (entries_up_to 50) (field (codes "pdus") d)) (then_entries 50 (field (codes "pdus") d) (field_back (codes "pdus") d h))

-- ---- the whole

some_back : (n : ℕ) (o : Option (List Data)) → IfSome o (AllByRecursion Backs) → option_map (map json_of) (option_map (texts_within n) o) ≡ option_map (λ entries. map Some (filter (has_text_within n) entries)) o
some_back n None h = refl
some_back n (Some ds) h = ap Some (all_back n ds h)

in_turn : (texts : Option (Vec (Vec ℕ Global) Global)) → option_map (λ all. map json_of (texts_of all.items)) texts ≡ option_map (map json_of) (texts_in texts)
in_turn None = refl
in_turn (Some all) = refl

pub read_back : (n : ℕ) (d : Data) (texts : Option (Vec (Vec ℕ Global) Global)) → IsReadable d → depth d ≤ max_depth → texts_in texts ≡ option_map (texts_within n) (pdus_in d)
    → option_map (λ all. map json_of (texts_of all.items)) texts ≡ option_map (λ entries. map Some (filter (has_text_within n) entries)) (pdus_in d)
read_back n d texts r shallow e = in_turn texts ∙ ap (option_map (map json_of)) e ∙ some_back n (pdus_in d) (pdus_back d (r, shallow))
