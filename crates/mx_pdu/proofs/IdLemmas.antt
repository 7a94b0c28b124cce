-- The ids of a well-formed event are ids.
use Rattle.std.proofs.Common.{◌≡◌, ℕ, List, [], ◌∷◌, ◌++◌, length, Bool, true, false, not, Option, Some, None, IsTrue, is_none, option_and_then, refl, sym, ap, ◌∙◌, arith, lit<, append_assoc, true≢false}
use Rattle.std.specs.Prelude.{codes, nat_le, unwrap_or, filter_map}
use Rattle.std.specs.List.{list_all, cons_option}
use Rattle.std.proofs.lemmas.Bool.Decides.{nat_tests}
use Rattle.serde_json.specs.Data.{Data, null, boolean, number, string, array, object, no_items}
use Rattle.serde_json.specs.Find.{as_str, as_array}
use Rattle.serde_json.specs.View.{view, items_view}
use Rattle.serde_json.specs.declared.value.Value.{Value}
use Rattle.mx_ident.specs.Identifier.{refuse_if, begins_with, has_colon, is_empty, server_of, common_error, length_error, event_id_error, room_id_error, user_id_error, is_event_id, is_room_id, is_user_id}
use Rattle.mx_ident.specs.declared.refusals.NotAnId.{NotAnId}
use Rattle.mx_ident.specs.declared.refusals.NotAnId.TheVariants.{NoSigil, NoColon, EmptyServer, NothingAfterSigil}
use Rattle.mx_redact.specs.Fields.{field, item_list, is_some_and, is_none_or}
use Rattle.mx_pdu.specs.Event.{room_of, sender_of, prev_ids, auth_ids}
use Rattle.mx_pdu.specs.Format.{is_well_formed, is_id, is_id_or_long, is_short, is_short_list, is_event_id_list}
use Rattle.mx_pdu.proofs.FormatLemmas.{required-at, limit-at, and-left, and-right, and-both}

-- ---- a text that is an id but for its length, and short

not_refused : (b : Bool) (error : NotAnId) (rest : Option NotAnId) → is_id_or_long (refuse_if b error rest) ≡ true → is_id_or_long (Some error) ≡ false
    → refuse_if b error rest ≡ rest
not_refused true error rest h k = absurd (true≢false (sym h ∙ k))
not_refused false error rest h k = refl

length-none : (s : List ℕ) → nat_le (length s) 255 ≡ true → length_error s ≡ None
length-none s h = grind (arith, nat_tests)

abbrev IsLengthLast : (List ℕ → Option NotAnId) → Type 0
IsLengthLast error = (s : List ℕ) → is_id_or_long (error s) ≡ true → nat_le (length s) 255 ≡ true → error s ≡ None

common-last : (sigil : ℕ) → IsLengthLast (common_error sigil)
common-last sigil s h short =
    let one = not_refused (not (begins_with sigil s)) NoSigil _ h refl in
    let two = not_refused (not (has_colon s)) NoColon _ (sym (ap is_id_or_long one) ∙ h) refl in
    let three = not_refused (is_empty (server_of s)) EmptyServer _ (sym (ap is_id_or_long (one ∙ two)) ∙ h) refl in
    one ∙ two ∙ three ∙ length-none s short

event_id-last : IsLengthLast event_id_error
event_id-last s h short =
    let one = not_refused (not (begins_with 36 s)) NoSigil _ h refl in
    let two = not_refused _ NothingAfterSigil _ (sym (ap is_id_or_long one) ∙ h) refl in
    one ∙ two ∙ length-none s short

-- ---- an id at a key

id-there : (error : List ℕ → Option NotAnId) → IsLengthLast error → (o : Option Data) → is_some_and (is_id error) o ≡ true → is_none_or is_short o ≡ true
    → is_none (error (unwrap_or (option_and_then as_str o) [])) ≡ true
id-there error last None h short = absurd (true≢false (sym h))
id-there error last (Some null) h short = absurd (true≢false (sym h))
id-there error last (Some (boolean b)) h short = absurd (true≢false (sym h))
id-there error last (Some (number n)) h short = absurd (true≢false (sym h))
id-there error last (Some (string s)) h short = ap is_none (last s h short)
id-there error last (Some (array ds)) h short = absurd (true≢false (sym h))
id-there error last (Some (object ms)) h short = absurd (true≢false (sym h))

pub room-is : (d : Data) → IsTrue (is_well_formed d) → is_room_id (room_of d) ≡ true
room-is d h =
    id-there room_id_error (common-last 33) (field (codes "room_id") d) (required-at d 6 h (lit< tt)) (limit-at d 3 h (lit< tt))

pub sender-is : (d : Data) → IsTrue (is_well_formed d) → is_user_id (sender_of d) ≡ true
sender-is d h =
    id-there user_id_error (common-last 64) (field (codes "sender") d) (required-at d 7 h (lit< tt)) (limit-at d 4 h (lit< tt))

-- ---- the ids in a list

first-is : (d : Data) (rest : List (List ℕ)) → is_id event_id_error d ≡ true → is_short d ≡ true → list_all is_event_id rest ≡ true
    → list_all is_event_id (cons_option (as_str d) rest) ≡ true
first-is null rest h short later = absurd (true≢false (sym h))
first-is (boolean b) rest h short later = absurd (true≢false (sym h))
first-is (number n) rest h short later = absurd (true≢false (sym h))
first-is (string s) rest h short later = and-both _ _ (ap is_none (event_id-last s h short)) later
first-is (array ds) rest h short later = absurd (true≢false (sym h))
first-is (object ms) rest h short later = absurd (true≢false (sym h))

ids-are : (ds : List Data) → list_all (is_id event_id_error) ds ≡ true → list_all is_short ds ≡ true → list_all is_event_id (filter_map as_str ds) ≡ true
ids-are [] h short = refl
ids-are (d ∷ ds) h short = first-is d _ (and-left _ _ h) (and-left _ _ short) (ids-are ds (and-right _ _ h) (and-right _ _ short))

list-is : (n : ℕ) (o : Option Data) → is_some_and is_event_id_list o ≡ true → is_none_or (is_short_list n) o ≡ true
    → list_all is_event_id (filter_map as_str (item_list (unwrap_or (option_and_then as_array o) no_items))) ≡ true
list-is n None h short = absurd (true≢false (sym h))
list-is n (Some null) h short = absurd (true≢false (sym h))
list-is n (Some (boolean b)) h short = absurd (true≢false (sym h))
list-is n (Some (number m)) h short = absurd (true≢false (sym h))
list-is n (Some (string s)) h short = absurd (true≢false (sym h))
list-is n (Some (array ds)) h short = ids-are (item_list ds) h (and-right _ _ short)
list-is n (Some (object ms)) h short = absurd (true≢false (sym h))

pub auth-are : (d : Data) → IsTrue (is_well_formed d) → list_all is_event_id (auth_ids d) ≡ true
auth-are d h =
    list-is 10 (field (codes "auth_events") d) (required-at d 0 h (lit< tt)) (limit-at d 0 h (lit< tt))

pub prev-are : (d : Data) → IsTrue (is_well_formed d) → list_all is_event_id (prev_ids d) ≡ true
prev-are d h =
    list-is 20 (field (codes "prev_events") d) (required-at d 5 h (lit< tt)) (limit-at d 2 h (lit< tt))

-- ---- the texts of an array, one by one

pub texts-of : (vs : List Value) → filter_map (λ v. as_str (view v)) vs ≡ filter_map as_str (item_list (items_view vs))
texts-of [] = refl
texts-of (v ∷ vs) = ap (cons_option (as_str (view v))) (texts-of vs)

pub first-of : (o : Option (List ℕ)) (rest : List (List ℕ)) → list_all is_event_id (cons_option o rest) ≡ true
    → (is_none_or is_event_id o ≡ true) × (list_all is_event_id rest ≡ true)
first-of None rest h = (refl, h)
first-of (Some s) rest h = (and-left _ _ h, and-right _ _ h)

pub text-taken : (out out' all rest : List (List ℕ)) (o : Option (List ℕ)) → out' ≡ out ++ cons_option o [] → out ++ cons_option o rest ≡ all → out' ++ rest ≡ all
text-taken out out' all rest None e h = ap (λ t. t ++ rest) e ∙ append_assoc out [] rest ∙ h
text-taken out out' all rest (Some s) e h = ap (λ t. t ++ rest) e ∙ append_assoc out (s ∷ []) rest ∙ h
