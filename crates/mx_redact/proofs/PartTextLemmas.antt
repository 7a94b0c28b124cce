-- A part's text, put together from the pieces of an event's text.
use Rattle.std.proofs.Common.{◌≡◌, ℕ, suc, ◌+◌, ◌-◌, ◌<◌, ◌≤◌, Bool, true, false, List, [], ◌∷◌, ◌++◌, length, get_or, map, take, drop, refl, sym, ap, ◌∙◌, subst, append_assoc, length-append, arith, IsTrue}
use Rattle.std.specs.Prelude.{codes, bytes_eq, if◌then◌else◌, Option, Some, None, option_and_then}
use Rattle.std.specs.List.{join_with_byte}
use Rattle.std.specs.List.Sorted.{IsStrictlySortedBy}
use Rattle.std.proofs.lemmas.List.{take_at, drop_all, drop_more}
use Rattle.std.proofs.lemmas.Slice.Eq.{bytes_eq-Decides}
use Rattle.serde_json.specs.Data.{Data, null, boolean, number, string, array, object, Members, no_members, member}
use Rattle.serde_json.specs.Find.{as_object, get_member}
use Rattle.mx_canon.specs.Canonical.{canonical_text, member_text, sorted_members, string_text}
use Rattle.mx_canon.specs.KeyOrder.{keys, text_cmp}
use Rattle.mx_canon.specs.Pieces.{comma_if}
use Rattle.mx_canon.specs.Sinks.{HoldsText}
use Rattle.mx_canon.proofs.PieceLemmas.{left, left-step}
use Rattle.mx_redact.specs.EventKeys.{key_of}
use Rattle.mx_redact.specs.Fields.{field, kind}
use Rattle.mx_redact.specs.Places.{ArePlaces, IsPlacedEvent, place_of, places_from, redacted_by}
use Rattle.mx_redact.specs.PartTexts.{AllKnown, HoldsAllBut, IsBehindComma, IsKnown, StandsAt, inner_at, is_key_in, part_known, selection_of}
use Rattle.mx_redact.specs.Redaction.{redacted_content}
use Rattle.mx_redact.specs.Selected.{inner_of, is_in_part, kept_content_of, kept_part, part_by, selected, selected_value}
use Rattle.mx_redact.specs.declared.event_keys.EventKey.{EventKey}
use Rattle.mx_redact.specs.declared.kinds.KeptContent.{KeptContent}
use Rattle.mx_redact.specs.declared.part_texts.Part.{Part}
use Rattle.mx_redact.specs.declared.part_texts.Part.TheVariants.{Hashed, Signed}
use Rattle.mx_redact.specs.declared.part_texts.PartText.{PartText}
use Rattle.mx_redact.specs.declared.places.MemberPlace.{MemberPlace}
use Rattle.mx_redact.specs.declared.selections.Selection.TheVariants.{Content}
use Rattle.mx_redact.proofs.EventKeyLemmas.{is_key_in-of, inner_at-of}
use Rattle.mx_redact.proofs.LookupLemmas.{finds, found-later}
use Rattle.mx_redact.proofs.PlaceLemmas.{opened-first}
use Rattle.mx_redact.proofs.SelectedLemmas.{kept_part-of, selected-Content, selected-out, sorted_members-selected}
use Rattle.mx_redact.proofs.TextPieceLemmas.{opened, pieces, piece, piece-here, comma-here, piece-after}

-- ---- a member's bytes, with the comma before it where one is wanted

abbrev pub first_of : ℕ → Bool → ℕ
first_of start later = if later then start - 1 else start

taken-from : (text : List ℕ) (start n : ℕ) (later : Bool) → 1 ≤ start
    → (IsTrue later → drop (start - 1) text ≡ 44 ∷ drop start text)
    → take (start + n - first_of start later) (drop (first_of start later) text) ≡ comma_if later ++ take n (drop start text)
taken-from text start n true positive comma =
    let m : start + n - (start - 1) ≡ suc n = omega arith in
    ap (λ i. take i (drop (start - 1) text)) m ∙ ap (take (suc n)) (comma refl)
taken-from text start n false positive comma = let m : start + n - start ≡ n = omega arith in ap (λ i. take i (drop start text)) m

module _ (text : List ℕ) (place : MemberPlace) (k : List ℕ) (d : Data) (after : List ℕ) (later : Bool)
    (stands : StandsAt text place k d after) (comma : IsTrue later → IsBehindComma text place) (positive : 1 ≤ place.start) where
  pub whole-taken : take (place.end - first_of place.start later)
      (drop (first_of place.start later) text) ≡ comma_if later ++ piece k d
  whole-taken =
      let n = length (piece k d) in
      let end : place.end ≡ place.start + n = ap (λ p. p.end) stands.place_is in
      ap (λ e. take (e - first_of place.start later) (drop (first_of place.start later) text)) end
      ∙ taken-from text place.start n later positive comma
      ∙ ap (λ t. comma_if later ++ take n t) stands.here
      ∙ ap (λ t. comma_if later ++ t) (take_at (piece k d) after n refl)

  pub key-taken : take (place.value - first_of place.start later)
      (drop (first_of place.start later) text) ≡ comma_if later ++ (string_text k ++ 58 ∷ [])
  key-taken =
      let key = string_text k ++ 58 ∷ [] in
      let n = length (string_text k) + 1 in
      let value : place.value ≡ place.start + n = ap (λ p. p.value) stands.place_is in
      let split : piece k d ++ after ≡ key ++ (canonical_text d ++ after) =
      append_assoc (string_text k) (58 ∷ canonical_text d) after ∙ sym (append_assoc (string_text k) (58 ∷ []) (canonical_text d ++ after)) in
      ap (λ e. take (e - first_of place.start later) (drop (first_of place.start later) text)) value
      ∙ taken-from text place.start n later positive comma
      ∙ ap (λ t. comma_if later ++ take n t) (stands.here ∙ split)
      ∙ ap (λ t. comma_if later ++ t) (take_at key (canonical_text d ++ after) n (length-append (string_text k) (58 ∷ [])))

pub put-text : (taken comma key value : List ℕ)
    → (taken ++ (comma ++ (key ++ 58 ∷ []))) ++ value ≡ (taken ++ comma) ++ (key ++ 58 ∷ value)
put-text taken comma key value =
    ap (λ t. t ++ value) (sym (append_assoc taken comma (key ++ 58 ∷ [])))
    ∙ append_assoc (taken ++ comma) (key ++ 58 ∷ []) value
    ∙ ap (λ t. (taken ++ comma) ++ t) (append_assoc key (58 ∷ []) value)

-- ---- the value at a key of a part

content_key : (kept other : KeptContent) (k : List ℕ) (b : Bool) → bytes_eq k (codes "content") ≡ b
    → (if b then Some kept else None) ≡ Some other → (k ≡ codes "content") × (kept ≡ other)
content_key kept other k true h e = ((bytes_eq-Decides k (codes "content")).0 h, cc)
content_key kept other k false h e = let both : None ≡ Some other = e in cc

-- a content of which a part is kept, by the members known of it
pub known-inside : (part : Part) (k : List ℕ) (d : Data) (kept : KeptContent) (known : Option Members)
    → inner_of (selection_of part) k ≡ Some kept → IsKnown part known k d
    → selected_value (selection_of part) k d ≡ part_known kept known d
known-inside Hashed k d kept known some is = let both : None ≡ Some kept = some in cc
known-inside (Signed own) k d kept known some is =
    let (key, same) = content_key own kept k (bytes_eq k (codes "content")) refl some in
    ap (λ o. part_by o d) some ∙ ap (λ c. kept_part c d) (sym same) ∙ is key ∙ ap (λ c. part_known c known d) same

pub known-object : (part : Part) (x : EventKey) (k : List ℕ)
    (d : Data) (kept : KeptContent) (known : Option Members) (ms : Members)
    → x ≡ key_of k → inner_at part x ≡ Some kept → known ≡ Some ms
    → IsKnown part known k d → selected_value (selection_of part) k d ≡ object (selected (Content kept) ms)
known-object part x k d kept known ms named some of is =
    known-inside part k d kept known (sym (inner_at-of part k) ∙ ap (inner_at part) (sym named) ∙ some) is
    ∙ ap (λ o. part_known kept o d) of ∙ ap object (sym (selected-Content kept ms))

-- where none is kept by itself, or no members are known, the value stays
pub none-inner : (part : Part) (x : EventKey) (k : List ℕ) (d : Data) → x ≡ key_of k → inner_at part x ≡ None
    → selected_value (selection_of part) k d ≡ d
none-inner part x k d named none = ap (λ o. part_by o d) (sym (inner_at-of part k) ∙ ap (inner_at part) (sym named) ∙ none)

pub none-known : (part : Part) (x : EventKey) (k : List ℕ) (d : Data) (kept : KeptContent) (known : Option Members)
    → x ≡ key_of k → inner_at part x ≡ Some kept → known ≡ None → IsKnown part known k d
    → selected_value (selection_of part) k d ≡ d
none-known part x k d kept known named some none is =
    known-inside part k d kept known (sym (inner_at-of part k) ∙ ap (inner_at part) (sym named) ∙ some) is ∙ ap (λ o. part_known kept o d) none

-- ---- what is left of a text and of its places

pub record IsLeft (text : List ℕ) (places : List MemberPlace) (known : Option Members) (out : PartText) (all : Members) : Type 0 where
  pub rest : Members
  pub at : ℕ
  pub behind : Bool
  pub rise : IsStrictlySortedBy text_cmp (keys rest)
  pub places_are : places ≡ places_from (at + 1) rest
  pub here : drop at text ≡ opened behind (pieces rest)
  pub known_are : AllKnown out.part known rest
  pub held : HoldsAllBut out rest all
  pub comma : out.later ≡ true → behind ≡ true

pub left-all : (text : List ℕ) (places : List MemberPlace) (known : Option Members) (out : PartText) (all : Members)
    → ArePlaces text places all → AllKnown out.part known all
    → HoldsAllBut out all all → out.later ≡ false → IsLeft text places known out all
left-all text places known out all are known_are held first =
    record {
      rest = all;
      at = 0;
      behind = false;
      rise = are.rise;
      places_are = are.places_are;
      here = opened-first text places all are;
      known_are = known_are;
      held = held;
      comma = λ h. let both : true ≡ false = sym h ∙ first in cc;
    }

-- the first place that is left
pub left-next : (text : List ℕ) (places : List MemberPlace) (i : ℕ)
    (place : MemberPlace) (known : Option Members) (out : PartText) (all : Members)
    → i < length places
    → IsLeft text (drop i places) known out all → IsLeft text (get_or places i place ∷ drop (i + 1) places) known out all
left-next text places i place known out all lt h = subst (λ ps. IsLeft text ps known out all) (drop_more places i place lt) h

-- the first member that is left is not in the part
out-at : (text : List ℕ) (place : MemberPlace) (places : List MemberPlace)
    (known : Option Members) (out : PartText) (all rest : Members) (at : ℕ) (behind : Bool)
    → IsStrictlySortedBy text_cmp (keys rest) → place ∷ places ≡ places_from (at + 1) rest
    → drop at text ≡ opened behind (pieces rest) → AllKnown out.part known rest → HoldsAllBut out rest all
    → is_key_in out.part place.key ≡ false → IsLeft text places known out all
unfolding IsStrictlySortedBy
out-at text place places known out all no_members at behind rise are here known_are held outside = let both : place ∷ places ≡ [] = are in cc
out-at text place places known out all (member k d ms) at behind rise are here known_are held outside =
    let s = selection_of out.part in
    let head : place ≡ place_of (at + 1) k d = cc in
    let tail : places ≡ places_from (at + 1 + length (piece k d) + 1) ms = cc in
    let not_in : is_in_part s k ≡ false = sym (is_key_in-of out.part k) ∙ ap (λ p. is_key_in out.part p.key) (sym head) ∙ outside in
    let (taken, has, is) = held in
    record {
      rest = ms;
      at = at + 1 + length (piece k d);
      behind = true;
      rise = rise.1;
      places_are = tail;
      here = piece-after text at behind k d ms rise here;
      known_are = known_are.1;
      held = (taken, has, ap (λ ns. taken ++ left out.later (map member_text (sorted_members ns))) (sym (selected-out s k d ms not_in)) ∙ is);
      comma = λ _. refl;
    }

pub left-out : (text : List ℕ) (place : MemberPlace) (places : List MemberPlace)
    (known : Option Members) (out : PartText) (all : Members)
    → is_key_in out.part place.key ≡ false
    → IsLeft text (place ∷ places) known out all → IsLeft text places known out all
left-out text place places known out all outside h =
    out-at text place places known out all h.rest h.at h.behind h.rise h.places_are h.here h.known_are h.held outside

-- the first member that is left is put
abbrev pub IsPut : List ℕ → MemberPlace → Option Members → PartText → PartText → Type 0
IsPut text place known old new =
    (k : List ℕ) (d : Data) (after : List ℕ) (taken : List ℕ) → StandsAt text place k d after → (IsTrue old.later → IsBehindComma text place) → IsKnown old.part known k d
    → HoldsText old.buffer taken
    → HoldsText new.buffer ((taken ++ comma_if old.later) ++ member_text (k, canonical_text (selected_value (selection_of old.part) k d)))

put-at : (text : List ℕ) (place : MemberPlace) (places : List MemberPlace)
    (known : Option Members) (old new : PartText) (all rest : Members) (at : ℕ) (behind : Bool)
    → IsStrictlySortedBy text_cmp (keys rest) → place ∷ places ≡ places_from (at + 1) rest
    → drop at text ≡ opened behind (pieces rest) → AllKnown old.part known rest → HoldsAllBut old rest all
    → (old.later ≡ true → behind ≡ true) → is_key_in old.part place.key ≡ true → new.part ≡ old.part → new.later ≡ true
    → IsPut text place known old new → IsLeft text places known new all
unfolding IsStrictlySortedBy canonical_text
put-at text place places known old new all no_members at behind rise are here known_are held comma inside part later put = let both : place ∷ places ≡ [] = are in cc
put-at text place places known old new all (member k d ms) at behind rise are here known_are held comma inside part later put =
    let s = selection_of old.part in
    let head : place ≡ place_of (at + 1) k d = cc in
    let tail : places ≡ places_from (at + 1 + length (piece k d) + 1) ms = cc in
    let start : place.start ≡ at + 1 = ap (λ p. p.start) head in
    let before : place.start - 1 ≡ at = omega (arith, start) in
    let is_in : is_in_part s k ≡ true = sym (is_key_in-of old.part k) ∙ ap (λ p. is_key_in old.part p.key) (sym head) ∙ inside in
    let stands : StandsAt text place k d (opened true (pieces ms)) = record {
      place_is = head ∙ ap (λ n. place_of n k d) (sym start);
      here = ap (λ n. drop n text) start ∙ piece-here text at behind k d ms rise here;
    } in
    let behind_comma : IsTrue old.later → IsBehindComma text place = λ h. ap (λ n. drop n text) before
    ∙ comma-here text at behind k d ms rise here (comma h) ∙ ap (λ n. 44 ∷ drop n text) (sym start) in
    let (taken, has, is) = held in
    let v = canonical_text (selected_value s k d) in
    let put_text = (taken ++ comma_if old.later) ++ member_text (k, v) in
    let whole : put_text ++ left true (map member_text (sorted_members (selected s ms))) ≡ 123 ∷ join_with_byte 44 (map member_text (sorted_members (selected s all))) =
    left-step taken _ _ (member_text (k, v)) old.later (map member_text (sorted_members (selected s ms))) refl refl
    ∙ ap (λ es. taken ++ left old.later (map member_text es)) (sym (sorted_members-selected s k d ms rise.0 rise.1 is_in))
    ∙ is in
    record {
      rest = ms;
      at = at + 1 + length (piece k d);
      behind = true;
      rise = rise.1;
      places_are = tail;
      here = piece-after text at behind k d ms rise here;
      known_are = subst (λ p. AllKnown p known ms) (sym part) known_are.1;
      held = rw (part, later) (put_text, put k d (opened true (pieces ms)) taken stands behind_comma known_are.0 has, whole);
      comma = λ _. refl;
    }

pub left-put : (text : List ℕ) (place : MemberPlace) (places : List MemberPlace)
    (known : Option Members) (old new : PartText) (all : Members)
    → is_key_in old.part place.key ≡ true
    → new.part ≡ old.part → new.later ≡ true → IsPut text place known old new → IsLeft text (place ∷ places) known old all
    → IsLeft text places known new all
left-put text place places known old new all inside part later put h =
    put-at text place places known old new all h.rest h.at h.behind h.rise h.places_are h.here h.known_are h.held h.comma inside part later put

-- behind the last place no member is left
none-left : (rest : Members) (at : ℕ) → [] ≡ places_from (at + 1) rest → rest ≡ no_members
none-left no_members at e = refl
none-left (member k d ms) at e = cc

pub left-none : (text : List ℕ) (places : List MemberPlace) (i : ℕ) (known : Option Members) (out : PartText) (all : Members)
    → length places ≤ i
    → IsLeft text (drop i places) known out all → HoldsAllBut out no_members all
left-none text places i known out all le h = subst (λ rest. HoldsAllBut out rest all) (none-left h.rest h.at (sym (drop_all i places le) ∙ h.places_are)) h.held

-- ---- what is known of an event's content

pub all_known-hashed : (known : Option Members) (ms : Members) → AllKnown Hashed known ms
all_known-hashed known no_members = tt
all_known-hashed known (member k d ms) = (tt, all_known-hashed known ms)

part_known-of : (type : List ℕ) (known : Option Members) (d : Data)
    → part_known (kept_content_of type) known d ≡ redacted_by type known d
part_known-of type None d = refl
part_known-of type (Some ms) d = kept_part-of type (object ms)

known-from : (type : List ℕ) (known : Option Members) (ms : Members) → IsStrictlySortedBy text_cmp (keys ms)
    → ((d : Data) → get_member (codes "content") ms ≡ Some d → redacted_content type d ≡ redacted_by type known d)
    → AllKnown (Signed (kept_content_of type)) known ms
unfolding IsStrictlySortedBy
known-from type known no_members rise has = tt
known-from type known (member k d ms) rise has = (
  λ e. kept_part-of type d ∙ has d (finds (codes "content") k d ms ((bytes_eq-Decides (codes "content") k).1 (sym e))) ∙ sym (part_known-of type known d),
  known-from type known ms rise.1 (λ f got. has f (found-later (codes "content") k f d ms rise.0 got)),
)

pub all_known-signed : (text : List ℕ) (places : List MemberPlace) (type : List ℕ) (known : Option Members) (ms : Members)
    → IsPlacedEvent text places type known ms
    → AllKnown (Signed (kept_content_of type)) known ms
all_known-signed text places type known ms event = known-from type known ms event.members.rise event.content

redacted_by-all : (type : List ℕ) (d : Data) → redacted_content type d ≡ redacted_by type (as_object d) d
redacted_by-all type null = refl
redacted_by-all type (boolean b) = refl
redacted_by-all type (number n) = refl
redacted_by-all type (string s) = refl
redacted_by-all type (array ds) = refl
redacted_by-all type (object ms) = refl

-- an event of which all members of the content are known, where it is an object
pub placed-whole : (text : List ℕ) (places : List MemberPlace) (type : List ℕ) (known : Option Members) (ms : Members)
    → ArePlaces text places ms → type ≡ kind (object ms)
    → known ≡ option_and_then as_object (field (codes "content") (object ms)) → IsPlacedEvent text places type known ms
placed-whole text places type known ms are kind_is all = record {
  members = are;
  kind_is = kind_is;
  content = λ d got. redacted_by-all type d ∙ ap (λ o. redacted_by type o d) (sym (all ∙ ap (option_and_then as_object) got));
}
