-- The format of an event (Matrix specification, Room Version 6, event format; Client-Server API, size limits).
use Rattle.std.specs.Prelude.{ℕ, nat_lt, nat_le, pos, int_le, Bool, true, false, not, ◌&&◌, List, [], ◌∷◌, length, codes, Option, Some, None, option_and_then, is_some, is_none}
use Rattle.std.specs.List.{list_all}
use Rattle.serde_json.specs.Data.{Data, depth as nesting}
use Rattle.serde_json.specs.Find.{as_str, as_array, as_number, as_integer}
use Rattle.serde_json.specs.Read.{max_depth}
use Rattle.mx_canon.specs.Canonical.{is_canonical, canonical_text, largest}
use Rattle.mx_ident.specs.Identifier.{refuse_if, user_id_error, room_id_error, event_id_error}
use Rattle.mx_ident.specs.declared.refusals.NotAnId.{NotAnId}
use Rattle.mx_ident.specs.declared.refusals.NotAnId.TheVariants.{NoSigil, NoColon, EmptyServer, NothingAfterSigil, TooLong}
use Rattle.mx_pdu.specs.declared.refusals.NotAnEvent.{NotAnEvent}
use Rattle.mx_pdu.specs.declared.refusals.NotAnEvent.TheVariants.{NotAnObject, NotCanonical, TextTooLong, WrongField, OverLimit}
use Rattle.mx_redact.specs.Fields.{Event, field, is_object, item_list, is_some_and, is_none_or}

-- ---- the kinds of fields

abbrev pub is_string : Data → Bool
is_string d = is_some (as_str d)

abbrev pub is_integer : Data → Bool
is_integer d = is_some (option_and_then as_integer (as_number d))

-- an identifier but for its length
abbrev pub is_id_or_long : Option NotAnId → Bool
is_id_or_long None = true
is_id_or_long (Some NoSigil) = false
is_id_or_long (Some NoColon) = false
is_id_or_long (Some EmptyServer) = false
is_id_or_long (Some NothingAfterSigil) = false
is_id_or_long (Some TooLong) = true

abbrev pub is_id : (List ℕ → Option NotAnId) → Data → Bool
is_id error d = is_some_and (λ s. is_id_or_long (error s)) (as_str d)

abbrev pub is_event_id_list : Data → Bool
is_event_id_list d = is_some_and (λ ds. list_all (is_id event_id_error) (item_list ds)) (as_array d)

-- a field's key, and a test of its value
abbrev pub Field : Type 0
Field = List ℕ × (Data → Bool)

abbrev pub required_fields : List Field
required_fields =
    (codes "auth_events", is_event_id_list)
    ∷ (codes "content", is_object)
    ∷ (codes "depth", is_integer)
    ∷ (codes "hashes", is_object)
    ∷ (codes "origin_server_ts", is_integer)
    ∷ (codes "prev_events", is_event_id_list)
    ∷ (codes "room_id", is_id room_id_error)
    ∷ (codes "sender", is_id user_id_error)
    ∷ (codes "signatures", is_object)
    ∷ (codes "type", is_string)
    ∷ []

abbrev pub has_fields : Event → Bool
has_fields e =
    list_all (λ f. is_some_and f.1 (field f.0 e)) required_fields
    && is_none_or is_string (field (codes "state_key") e)

-- ---- the limits

abbrev pub is_short : Data → Bool
is_short d = is_none_or (λ s. nat_le (length s) 255) (as_str d)

-- a list of so many entries, each of at most 255 bytes
abbrev pub is_short_list : ℕ → Data → Bool
is_short_list n d =
    is_none_or (λ ds. nat_le (length (item_list ds)) n && list_all is_short (item_list ds)) (as_array d)

-- from 0 to the largest integer
abbrev pub is_depth : Data → Bool
is_depth d =
    is_none_or (λ z. int_le (pos 0) z && int_le z (pos largest)) (option_and_then as_integer (as_number d))

abbrev pub limits : List Field
limits =
    (codes "auth_events", is_short_list 10)
    ∷ (codes "depth", is_depth)
    ∷ (codes "prev_events", is_short_list 20)
    ∷ (codes "room_id", is_short)
    ∷ (codes "sender", is_short)
    ∷ (codes "state_key", is_short)
    ∷ (codes "type", is_short)
    ∷ []

-- arrays and objects nest at most as deep as text is read, 127 levels, so that an event's text reads back (our own)
abbrev pub has_readable_nesting : Data → Bool
has_readable_nesting d = nat_le (nesting d) max_depth

abbrev pub is_within_limits : Event → Bool
is_within_limits e = list_all (λ f. is_none_or f.1 (field f.0 e)) limits && has_readable_nesting e

-- ---- the first refusal

-- the length of a canonical text, in bytes
abbrev pub longest_text : ℕ
longest_text = 65536

unfoldable pub format_error : Data → Option NotAnEvent
format_error d =
    refuse_if (not (is_object d)) NotAnObject
    (refuse_if (not (is_canonical d)) NotCanonical
    (refuse_if (nat_lt longest_text (length (canonical_text d))) TextTooLong
    (refuse_if (not (has_fields d)) WrongField
    (refuse_if (not (is_within_limits d)) OverLimit None))))

unfoldable pub is_well_formed : Data → Bool
is_well_formed d = is_none (format_error d)
