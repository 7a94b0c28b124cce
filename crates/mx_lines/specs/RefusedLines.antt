-- The line that tells of an event that was offered and not kept (docs/AUDIT.md).
use Rattle.std.specs.Prelude.{ℕ, if◌then◌else◌, List, [], ◌∷◌, ◌++◌, codes, Option, None, Some, option_map, string_bytes}
use Rattle.serde_json.specs.Data.{Data, number, string, unsigned}
use Rattle.serde_json.specs.Find.{of_integer}
use Rattle.mx_redact.specs.Fields.{Event, kind}
use Rattle.mx_redact.specs.Hashes.{hash_holds}
use Rattle.mx_pdu.specs.Event.{auth_ids, content_of, depth_of, has_kind, is_state, membership_of, prev_ids, sender_of, state_key_of, timestamp_of}
use Rattle.mx_lines.specs.Contents.{content_members, hash_text}
use Rattle.mx_canon.specs.Canonical.{canonical_text}
use Rattle.mx_lines.specs.Lines.{line_of, text_array}
use Rattle.mx_lines.specs.RefusedCauses.{cause_text}
use Rattle.mx_lines.specs.Written.{opened, with_members}
use Rattle.mx_lines.specs.declared.refused_lines.RefusedEvent.{RefusedEvent}

-- the membership that a member event gives
abbrev pub membership_told : Event → Option (List ℕ)
membership_told e = if has_kind (codes "m.room.member") e then membership_of e else None

-- the ids of events that are missing, where some are
abbrev pub some_ids : List (List ℕ) → Option Data
some_ids [] = None
some_ids (id ∷ ids) = Some (text_array (id ∷ ids))

-- what is of the event, behind its content
abbrev pub refused_middle : RefusedEvent → List (List ℕ × Option Data)
refused_middle r =
    (codes "content_hash", Some (string (hash_text (hash_holds r.event))))
    ∷ (codes "depth", Some (number (unsigned (depth_of r.event))))
    ∷ (codes "event_id", Some (string r.id))
    ∷ (codes "membership", option_map string (membership_told r.event))
    ∷ (codes "missing", some_ids r.missing.items)
    ∷ (codes "origin", option_map string r.offering.origin)
    ∷ (codes "origin_server_ts", Some (number (of_integer (timestamp_of r.event)))) ∷ []

abbrev pub refused_tail : RefusedEvent → List (List ℕ × Option Data)
refused_tail r =
    (codes "prev_events", Some (text_array (prev_ids r.event)))
    ∷ (codes "sender", Some (string (sender_of r.event)))
    ∷ (codes "state_key", option_map string (state_key_of r.event))
    ∷ (codes "transaction", option_map string (option_map string_bytes r.offering.transaction))
    ∷ (codes "type", Some (string (kind r.event)))
    ∷ (codes "verdict", Some (string (codes "refused"))) ∷ []

-- the members behind the first one
abbrev pub refused_members : RefusedEvent → List (List ℕ × Option Data)
refused_members r =
    (codes "auth_events", Some (text_array (auth_ids r.event)))
    ∷ (codes "because", Some (string (cause_text r.cause)))
    ∷ (content_members (is_state r.event) (content_of r.event) ++ (refused_middle r ++ refused_tail r))

-- the line of an event that is well formed: how many events the room had, who offered it, why it was not kept, which events
-- that it cites were missing, and the event as it was sent
unfoldable pub refused_text : RefusedEvent → List ℕ
refused_text r = line_of ((codes "after", Some (number (unsigned r.offering.after))) ∷ refused_members r)

-- ---- for private clauses

-- the beginning of the line as it is written, up to the content
abbrev pub head_written : List ℕ → RefusedEvent → List ℕ
head_written taken r =
    with_members (opened taken (codes "after") ++ canonical_text (number (unsigned r.offering.after)))
    ((codes "auth_events", Some (text_array (auth_ids r.event))) ∷ (codes "because", Some (string (cause_text r.cause))) ∷ [])
