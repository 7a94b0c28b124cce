-- Worked examples of the fields of an event and of its limits. Each computes.
use Rattle.std.specs.Prelude.{◌≡◌, refl, ℕ, zero, suc, List, [], ◌∷◌, ◌++◌, codes, pos, negsuc, replicate, true, false, Some, None}
use Rattle.std.specs.Fmt.{digits}
use Rattle.std.specs.Str.{chars}
use Rattle.serde_json.specs.Data.{Data, null, string, number, unsigned, negative, array, object, Items, no_items, item, Members, no_members, member}
use Rattle.mx_canon.specs.Canonical.{canonical_text}
use Rattle.mx_ident.specs.Identifier.{user_id_error}
use Rattle.mx_pdu.specs.Event.{prev_ids, auth_ids, depth_of, timestamp_of, redacts_of, state_key_of, is_state}
use Rattle.mx_pdu.specs.Format.{is_short, is_short_list, is_depth, has_readable_nesting, is_string, is_event_id_list, is_id, has_fields, format_error}
use Rattle.mx_pdu.specs.declared.refusals.NotAnEvent.TheVariants.{NotAnObject, NotCanonical, TextTooLong, WrongField, OverLimit}

-- an object with one field
abbrev one : List ℕ → Data → Data
one key d = object (member key d no_members)

abbrev texts : List (List ℕ) → Items
texts [] = no_items
texts (t ∷ ts) = item (string t) (texts ts)

abbrev ids : ℕ → Data
ids n = array (texts (replicate n (codes "$1")))

depth-there : depth_of (one (codes "depth") (number (unsigned 5))) ≡ 5
depth-there = refl

depth-absent : depth_of (object no_members) ≡ 0
depth-absent = refl

timestamp-there : timestamp_of (one (codes "origin_server_ts") (number (negative (negsuc 49)))) ≡ negsuc 49
timestamp-there = refl

timestamp-absent : timestamp_of (object no_members) ≡ pos 0
timestamp-absent = refl

-- in their order, and an id twice where it stands twice
prev-there : prev_ids (one (codes "prev_events") (array (texts (codes "$4" ∷ codes "$1" ∷ codes "$4" ∷ [])))) ≡ codes "$4" ∷ codes "$1" ∷ codes "$4" ∷ []
prev-there = refl

auth-there : auth_ids (one (codes "auth_events") (array (texts (codes "$3" ∷ codes "$1" ∷ [])))) ≡ codes "$3" ∷ codes "$1" ∷ []
auth-there = refl

redacts-there : redacts_of (one (codes "redacts") (string (codes "$7"))) ≡ Some (codes "$7")
redacts-there = refl

redacts-no_id : redacts_of (one (codes "redacts") (string (codes "7"))) ≡ None
redacts-no_id = refl

-- the empty key is a state key, and null is none
state_key-empty : state_key_of (one (codes "state_key") (string [])) ≡ Some []
state_key-empty = refl

state_key-null : is_state (one (codes "state_key") null) ≡ false
state_key-null = refl

text-null : is_string null ≡ false
text-null = refl

-- ---- limits

text-255 : is_short (string (replicate 255 97)) ≡ true
text-255 = refl

text-256 : is_short (string (replicate 256 97)) ≡ false
text-256 = refl

prev-20 : is_short_list 20 (ids 20) ≡ true
prev-20 = refl

prev-21 : is_short_list 20 (ids 21) ≡ false
prev-21 = refl

auth-10 : is_short_list 10 (ids 10) ≡ true
auth-10 = refl

auth-11 : is_short_list 10 (ids 11) ≡ false
auth-11 = refl

-- so many arrays, one in another
abbrev nested : ℕ → Data
nested zero = null
nested (suc n) = array (item (nested n) no_items)

nested-127 : has_readable_nesting (nested 127) ≡ true
nested-127 = refl

nested-128 : has_readable_nesting (nested 128) ≡ false
nested-128 = refl

depth-0 : is_depth (number (unsigned 0)) ≡ true
depth-0 = refl

depth-largest : is_depth (number (unsigned 9007199254740991)) ≡ true
depth-largest = refl

depth-above : is_depth (number (unsigned 9007199254740992)) ≡ false
depth-above = refl

depth-negative : is_depth (number (negative (negsuc 0))) ≡ false
depth-negative = refl

-- an id but for its length
ids-sound : is_event_id_list (ids 2) ≡ true
ids-sound = refl

ids-bare : is_event_id_list (array (texts (codes "$" ∷ []))) ≡ false
ids-bare = refl

ids-number : is_event_id_list (array (item (number (unsigned 1)) no_items)) ≡ false
ids-number = refl

ids-long : is_event_id_list (array (texts ((36 ∷ replicate 255 97) ∷ []))) ≡ true
ids-long = refl

-- what is no id for another cause is none, however long it is
ids-long_bare : is_event_id_list (array (texts (replicate 300 97 ∷ []))) ≡ false
ids-long_bare = refl

user-long : is_id user_id_error (string (64 ∷ replicate 253 97 ++ 58 ∷ 97 ∷ [])) ≡ true
user-long = refl

user-long_bare : is_id user_id_error (string (64 ∷ replicate 300 97)) ≡ false
user-long_bare = refl

fields-empty : has_fields (object no_members) ≡ false
fields-empty = refl

-- ---- the first refusal

abbrev members : List (List ℕ × Data) → Members
members [] = no_members
members (m ∷ ms) = member m.0 m.1 (members ms)

-- an event with this depth, this content, and so many prev events
abbrev event : Data → Data → ℕ → Data
event depth content prev =
    object (members ((codes "auth_events", ids 1) ∷ (codes "content", content) ∷ (codes "depth", depth) ∷ (codes "hashes", object no_members)
    ∷ (codes "origin_server_ts", number (unsigned 5)) ∷ (codes "prev_events", ids prev) ∷ (codes "room_id", string (codes "!r:a"))
    ∷ (codes "sender", string (codes "@a:a")) ∷ (codes "signatures", object no_members) ∷ (codes "type", string (codes "t")) ∷ []))

refused-none : format_error (event (number (unsigned 1)) (object no_members) 20) ≡ None
unfolding format_error canonical_text digits chars
refused-none = refl

refused-no_object : format_error (array (item (number (unsigned 9007199254740992)) no_items)) ≡ Some NotAnObject
unfolding format_error canonical_text digits chars
refused-no_object = refl

-- before a field of a wrong kind
refused-not_canonical : format_error (event (number (unsigned 9007199254740992)) null 21) ≡ Some NotCanonical
unfolding format_error canonical_text digits chars
refused-not_canonical = refl

-- before a limit
refused-wrong_field : format_error (event (number (unsigned 1)) null 21) ≡ Some WrongField
unfolding format_error canonical_text digits chars
refused-wrong_field = refl

refused-prev_events : format_error (event (number (unsigned 1)) (object no_members) 21) ≡ Some OverLimit
unfolding format_error canonical_text digits chars
refused-prev_events = refl

refused-depth : format_error (event (number (negative (negsuc 0))) (object no_members) 20) ≡ Some OverLimit
unfolding format_error canonical_text digits chars
refused-depth = refl

-- before a field of a wrong kind and a limit
refused-too_long : format_error (event (number (unsigned 1)) (string (replicate 65536 97)) 21) ≡ Some TextTooLong
unfolding format_error canonical_text digits chars
refused-too_long = refl
