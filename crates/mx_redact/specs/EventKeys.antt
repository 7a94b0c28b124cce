-- The keys of an event that hashes, redaction and the format ask for.
use Rattle.std.specs.Prelude.{ℕ, List, [], ◌∷◌, codes, bytes_eq, if◌then◌else◌}
use Rattle.mx_redact.specs.declared.event_keys.EventKey.{EventKey}
use Rattle.mx_redact.specs.declared.event_keys.EventKey.TheVariants.{AuthEvents, Content, Depth, EventId, Hashes, Membership, Origin, OriginServerTs, PrevEvents, PrevState, Redacts, RoomId, Sender, Signatures, StateKey, Kind, Unsigned, Other}

abbrev pub named_keys : List (List ℕ × EventKey)
named_keys =
    (codes "auth_events", AuthEvents)
    ∷ (codes "content", Content)
    ∷ (codes "depth", Depth)
    ∷ (codes "event_id", EventId)
    ∷ (codes "hashes", Hashes)
    ∷ (codes "membership", Membership)
    ∷ (codes "origin", Origin)
    ∷ (codes "origin_server_ts", OriginServerTs)
    ∷ (codes "prev_events", PrevEvents)
    ∷ (codes "prev_state", PrevState)
    ∷ (codes "redacts", Redacts)
    ∷ (codes "room_id", RoomId)
    ∷ (codes "sender", Sender)
    ∷ (codes "signatures", Signatures)
    ∷ (codes "state_key", StateKey)
    ∷ (codes "type", Kind)
    ∷ (codes "unsigned", Unsigned)
    ∷ []

abbrev pub key_among : List (List ℕ × EventKey) → List ℕ → EventKey
key_among [] k = Other
key_among (row ∷ rows) k = if bytes_eq k row.0 then row.1 else key_among rows k

-- the key that a text names
unfoldable pub key_of : List ℕ → EventKey
key_of k = key_among named_keys k
