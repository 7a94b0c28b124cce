-- The fields of an event (Matrix specification, Server-Server API, PDUs).
use Rattle.std.specs.Prelude.{ℕ, ℤ, pos, Bool, List, codes, bytes_eq, Option, Some, None, unwrap_or, option_and_then, is_some, if◌then◌else◌}
use Rattle.mx_ident.specs.Identifier.{is_event_id}
use Rattle.serde_json.specs.Data.{Data}
use Rattle.serde_json.specs.Find.{as_number, as_u64, as_integer}
use Rattle.mx_redact.specs.Fields.{Event, field, text_field, text_at, texts_at, value_at, is_text, kind}

abbrev pub room_of : Event → List ℕ
room_of e = text_at (codes "room_id") e

abbrev pub sender_of : Event → List ℕ
sender_of e = text_at (codes "sender") e

-- an event with no `state_key` is no state event
abbrev pub state_key_of : Event → Option (List ℕ)
state_key_of e = text_field (codes "state_key") e

abbrev pub is_state : Event → Bool
is_state e = is_some (state_key_of e)

abbrev pub content_of : Event → Data
content_of e = value_at (codes "content") e

abbrev pub prev_ids : Event → List (List ℕ)
prev_ids e = texts_at (codes "prev_events") e

abbrev pub auth_ids : Event → List (List ℕ)
auth_ids e = texts_at (codes "auth_events") e

abbrev pub depth_of : Event → ℕ
depth_of e = unwrap_or (option_and_then as_u64 (option_and_then as_number (field (codes "depth") e))) 0

abbrev pub timestamp_of : Event → ℤ
timestamp_of e =
    unwrap_or (option_and_then as_integer (option_and_then as_number (field (codes "origin_server_ts") e))) (pos 0)

-- the event that a redaction names, where `redacts` is an event id
abbrev pub redacts_of : Event → Option (List ℕ)
redacts_of e = option_and_then (λ s. if is_event_id s then Some s else None) (text_field (codes "redacts") e)

-- the `membership` of a member event
abbrev pub membership_of : Event → Option (List ℕ)
membership_of e = text_field (codes "membership") (content_of e)

abbrev pub has_membership : List ℕ → Event → Bool
has_membership m e = is_text m (membership_of e)

abbrev pub has_kind : List ℕ → Event → Bool
has_kind k e = bytes_eq (kind e) k
