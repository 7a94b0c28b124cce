-- Redaction (Matrix specification, Room Version 6, redactions).
use Rattle.std.specs.Prelude.{ℕ, Bool, not, ◌&&◌, List, [], ◌∷◌, ◌++◌, codes, bytes_eq, if◌then◌else◌}
use Rattle.std.specs.List.{list_any}
use Rattle.serde_json.specs.Data.{Data, null, boolean, number, string, array, object, Members, no_members, member}
use Rattle.mx_redact.specs.Fields.{Event, kind, words, members_of}

abbrev pub is_among : List (List ℕ) → List ℕ → Bool
is_among keys k = list_any (bytes_eq k) keys

-- the members whose keys pass a test
abbrev pub members_where : (List ℕ → Bool) → Members → Members
members_where test no_members = no_members
members_where test (member k d ms) = if test k then member k d (members_where test ms) else members_where test ms

-- the keys of an event that are kept
abbrev pub kept_keys : List (List ℕ)
kept_keys =
    words "event_id type room_id sender state_key content hashes signatures depth prev_events prev_state auth_events"
    ++ words "origin origin_server_ts membership"

-- the keys of `content` that are kept, for each type with any
abbrev pub kept_by_type : List (List ℕ × List (List ℕ))
kept_by_type =
    (codes "m.room.member", words "membership")
    ∷ (codes "m.room.create", words "creator")
    ∷ (codes "m.room.join_rules", words "join_rule")
    ∷ (codes "m.room.power_levels", words "ban events events_default kick redact state_default users users_default")
    ∷ (codes "m.room.history_visibility", words "history_visibility")
    ∷ []

-- a key of `content` is kept in events of a type
abbrev pub is_kept_in : List ℕ → List ℕ → Bool
is_kept_in type k = list_any (λ line. bytes_eq type line.0 && is_among line.1 k) kept_by_type

-- a content that is no object stays as it is
abbrev pub redacted_content : List ℕ → Data → Data
redacted_content type null = null
redacted_content type (boolean b) = boolean b
redacted_content type (number n) = number n
redacted_content type (string s) = string s
redacted_content type (array ds) = array ds
redacted_content type (object ms) = object (members_where (is_kept_in type) ms)

abbrev pub with_redacted_content : List ℕ → Members → Members
with_redacted_content type no_members = no_members
with_redacted_content type (member k d ms) =
    member k (if bytes_eq k (codes "content") then redacted_content type d else d) (with_redacted_content type ms)

-- an event without what redaction takes away
unfoldable pub redact : Event → Event
redact e = object (with_redacted_content (kind e) (members_where (is_among kept_keys) (members_of e)))

-- an event without some of its keys
abbrev pub without : List (List ℕ) → Event → Event
without keys e = object (members_where (λ k. not (is_among keys k)) (members_of e))
