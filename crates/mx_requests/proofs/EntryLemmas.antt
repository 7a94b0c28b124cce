-- The entries of an array.
use Rattle.std.proofs.Common.{◌≡◌, ◌<◌, ◌≤◌, ℕ, Bool, true, false, if◌then◌else◌, nat_le, List, [], ◌∷◌, length, string_bytes, String, map, filter, codes, arith, refl, sym, ap, ◌∙◌, leb-true}
use Rattle.std.specs.Prelude.{Option, Some, None, option_map, option_and_then, is_some}
use Rattle.serde_json.specs.Data.{Data, array, object}
use Rattle.serde_json.specs.Find.{as_array}
use Rattle.std.specs.Map.{lookup}
use Rattle.std.specs.BTreeMap.{is_at}
use Rattle.std.specs.Ordering.{nat_cmp}
use Rattle.std.specs.Cmp.Lexicographic.{slice_cmp}
use Rattle.std.specs.declared.alloc.Global.{Global}
use Rattle.serde_json.specs.View.{view, items_view, members_view}
use Rattle.serde_json.proofs.Views.{view-lookup}
use Rattle.serde_json.specs.declared.value.Value.{Value}
use Rattle.mx_redact.specs.Fields.{field, is_none_or, item_list}
use Rattle.mx_pdu.proofs.FieldLemmas.{items-length}
use Rattle.mx_pdu.specs.Format.{is_well_formed}
use Rattle.mx_pdu.specs.Offers.{Judge, offer_by}
use Rattle.mx_event_reading.specs.BodiesRead.{AreOffered, items_of, object_of}
use Rattle.mx_event_reading.specs.declared.objects.EventsRead.{EventsRead}
use Rattle.mx_event_reading.proofs.EventsReadLemmas.{at-pdus, beside-pdus, entries-offered}
use Rattle.mx_requests.specs.Requests.{entries_up_to, events_in, is_array_up_to}

values : (vs : List Value) → item_list (items_view vs) ≡ map (λ (v : Value). view v) vs
values [] = refl
values (v ∷ vs) = ap (λ ds. view v ∷ ds) (values vs)

is_some_if : {A : Type 0} (x : A) (b : Bool) → is_some (if b then Some x else None) ≡ b
is_some_if x true = refl
is_some_if x false = refl

pub array-length : (n : ℕ) (d : Data) (vs : List Value) → Some (items_view vs) ≡ as_array d → is_array_up_to n d ≡ nat_le (length vs) n
array-length n d vs e =
    ap (λ o. is_some (option_and_then (λ ds. if nat_le (length (item_list ds)) n then Some (item_list ds) else None) o)) (sym e)
    ∙ is_some_if (item_list (items_view vs)) (nat_le (length (item_list (items_view vs))) n)
    ∙ ap (λ k. nat_le k n) (items-length vs)

entries-by : (n : ℕ) (vs : List Value) (b : Bool) → nat_le (length vs) n ≡ b → entries_up_to n (array (items_view vs)) ≡ (if b then Some (map (λ (v : Value). view v) vs) else None)
entries-by n vs b e =
    ap (λ k. if nat_le k n then Some (item_list (items_view vs)) else None) (items-length vs)
    ∙ ap (λ c. if c then Some (item_list (items_view vs)) else None) e
    ∙ ap (λ ds. if b then Some ds else None) (values vs)

-- an array that is not longer, and one that is
pub short : (n : ℕ) (vs : List Value) → nat_le (length vs) n ≡ true → entries_up_to n (array (items_view vs)) ≡ Some (map (λ (v : Value). view v) vs)
short n vs e = entries-by n vs true e

pub long : (n : ℕ) (vs : List Value) → nat_le (length vs) n ≡ false → entries_up_to n (array (items_view vs)) ≡ None
long n vs e = entries-by n vs false e

-- the events of a body, by whether its ephemeral events are few and by what is at `pdus`
pub events-at : (d : Data) (few : Bool) (o : Option Data) → is_none_or (is_array_up_to 100) (field (codes "edus") d) ≡ few → field (codes "pdus") d ≡ o
    → events_in d ≡ (if few then option_map (filter is_well_formed) (option_and_then (entries_up_to 50) o) else None)
events-at d few o is e =
    ap (λ b. option_map (filter is_well_formed) (if b then option_and_then (entries_up_to 50) (field (codes "pdus") d) else None)) is
    ∙ ap (λ x. option_map (filter is_well_formed) (if few then option_and_then (entries_up_to 50) x else None)) e
    ∙ filtered_if few (option_and_then (entries_up_to 50) o)
  where
    filtered_if : (b : Bool) (x : Option (List Data)) → option_map (filter is_well_formed) (if b then x else None) ≡ (if b then option_map (filter is_well_formed) x else None)
    filtered_if true x = refl
    filtered_if false x = refl

-- the events of an object that was read with them
pub events-read : (judges : Judge) (read : EventsRead) (few fits : Bool) → AreOffered judges read.events.items
    → is_none_or (is_array_up_to 100) (field (codes "edus") (object (members_view read.others.entries))) ≡ few
    → nat_le (length read.events.items) 50 ≡ fits
    → option_map (map (offer_by judges)) (events_in (object_of read))
    ≡ (if few then (if fits then Some read.events.items else None) else None)
events-read judges read few fits are ephemeral counted =
    let beside = beside-pdus (codes "edus") read refl in
    let found = events-at (object_of read) few (Some (array (items_of read.events.items)))
    (ap (is_none_or (is_array_up_to 100)) beside ∙ ephemeral) (at-pdus read) in
    ap (option_map (map (offer_by judges))) found ∙ by few
  where
    by : (b : Bool)
        → option_map (map (offer_by judges)) (if b then option_map (filter is_well_formed)
        (entries_up_to 50 (array (items_of read.events.items))) else None)
        ≡ (if b then (if fits then Some read.events.items else None) else None)
    by true = entries-offered judges 50 fits read.events.items are counted
    by false = refl

pub not_below : (m n : ℕ) → n < m → nat_le m n ≡ false
not_below m n over = by (nat_le m n) refl
  where
    by : (b : Bool) → nat_le m n ≡ b → b ≡ false
    by true is = let l : m ≤ n = leb-true m n is in absurd (omega (arith, l, over))
    by false is = refl

-- the value of a key in the members of a map
pub shown_at : (name : List ℕ) (entries : List (String Global × Value)) → option_map (λ (v : Value). view v) (lookup (is_at (λ k. slice_cmp nat_cmp name (string_bytes k))) entries) ≡ field name (object (members_view entries))
shown_at name entries = view-lookup name entries
