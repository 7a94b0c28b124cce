-- What a server may see of a room, and what is given in place of a redacted event.
use Rattle.std.specs.Prelude.{ℕ, int_le, Bool, true, not, ◌&&◌, ◌||◌, if◌then◌else◌, List, [], codes, bytes_eq, Option, Some, None, unwrap_or, option_and_then}
use Rattle.std.specs.List.{list_any}
use Rattle.mx_ident.specs.Identifier.{server_of, is_user_id}
use Rattle.mx_redact.specs.Fields.{Event, text_field, is_text}
use Rattle.mx_redact.specs.Redaction.{redact}
use Rattle.mx_pdu.specs.Event.{content_of, sender_of, has_kind, has_membership, redacts_of}
use Rattle.mx_levels.specs.Level.{redact_level}
use Rattle.mx_auth.specs.StateView.{StateView, power_of, level_of}
use Rattle.mx_auth.specs.Rules.{same_server}
use Rattle.mx_graph.specs.Record.{Row, event, events_where}
use Rattle.mx_graph.specs.StateMap.{State}
use Rattle.mx_orders.specs.StateMap.{view}
use Rattle.mx_receipt.specs.Receipt.{Kept, rows_of, kept_at, is_accepted, is_rejected, state_before, state_after, current_state}
use Rattle.mx_access.specs.declared.visibilities.Visibility.{Visibility}
use Rattle.mx_access.specs.declared.visibilities.Visibility.TheVariants.{WorldReadable, Shared, Invited, Joined}

-- ---- Server-Server API: servers that are in the room

-- a user of the server has this membership in the state
abbrev pub has_member : List Row → State → List ℕ → List ℕ → Bool
has_member rows s membership server =
    list_any
    (λ e. bytes_eq e.0.0 (codes "m.room.member") && is_user_id e.0.1 && bytes_eq (server_of e.0.1) server
    && has_membership membership (event rows e.1))
    s

abbrev pub has_joined : List Kept → State → List ℕ → Bool
has_joined kept s server = has_member (rows_of kept) s (codes "join") server

abbrev pub has_invited : List Kept → State → List ℕ → Bool
has_invited kept s server = has_member (rows_of kept) s (codes "invite") server

-- a user of the server is joined in the current state
unfoldable pub in_room : List Kept → List ℕ → Bool
in_room kept server = has_joined kept (current_state kept) server

-- ---- Client-Server API, room history visibility; for servers it is our own

-- absent or unknown is `shared`
abbrev pub visibility_named : List ℕ → Visibility
visibility_named s =
    if bytes_eq s (codes "world_readable") then WorldReadable
    else (if bytes_eq s (codes "invited") then Invited else (if bytes_eq s (codes "joined") then Joined else Shared))

abbrev pub named_in : StateView → Option (List ℕ)
named_in s =
    option_and_then (λ e. text_field (codes "history_visibility") (content_of e))
    (s.entry (codes "m.room.history_visibility") [])

abbrev pub visibility_in : StateView → Visibility
visibility_in s = visibility_named (unwrap_or (named_in s) [])

-- a state with this visibility lets the server see the event
abbrev pub lets_see : Visibility → List Kept → State → List ℕ → Bool
lets_see WorldReadable kept s server = true
lets_see Shared kept s server = in_room kept server || has_joined kept s server
lets_see Invited kept s server = has_joined kept s server || has_invited kept s server
lets_see Joined kept s server = has_joined kept s server

abbrev pub visible_under : List Kept → List ℕ → State → Bool
visible_under kept server s = lets_see (visibility_in (view (rows_of kept) s)) kept s server

-- by the state before the event, or by the state after it
unfoldable pub visible : List Kept → List ℕ → ℕ → Bool
visible kept server p = visible_under kept server (state_before kept p) || visible_under kept server (state_after kept p)

-- ---- Client-Server API, redactions; Room Version 3, handling redactions

-- an accepted redaction that names an id
abbrev pub is_redaction_of : List Kept → List ℕ → ℕ → Bool
is_redaction_of kept id r =
    is_accepted (kept_at kept r).verdict && has_kind (codes "m.room.redaction") (kept_at kept r).event
    && is_text id (redacts_of (kept_at kept r).event)

-- the accepted redactions that name the event
abbrev pub redactions_of : List Kept → ℕ → List ℕ
redactions_of kept p = events_where (rows_of kept) (is_redaction_of kept (kept_at kept p).id)

-- the sender has the level for redactions, or is of the server of the other event's sender
abbrev pub may_redact : StateView → Event → Event → Bool
may_redact s redaction target =
    int_le (redact_level (power_of s)) (level_of s (sender_of redaction))
    || same_server (sender_of redaction) (sender_of target)

-- the redaction's sender is judged by the state before the redaction
abbrev pub is_effective : List Kept → ℕ → ℕ → Bool
is_effective kept p r =
    may_redact (view (rows_of kept) (state_before kept r)) (kept_at kept r).event (kept_at kept p).event

-- an effective redaction names the event
unfoldable pub is_redacted : List Kept → ℕ → Bool
is_redacted kept p = list_any (is_effective kept p) (redactions_of kept p)

-- ---- the forms in which an event is given

-- redacted where a redaction is effective, else as it is kept
unfoldable pub served : List Kept → ℕ → Event
served kept p = if is_redacted kept p then redact (kept_at kept p).event else (kept_at kept p).event

-- what the server may see of the event (our own)
unfoldable pub shown : List Kept → List ℕ → ℕ → Option Event
shown kept server p =
    if is_rejected (kept_at kept p).verdict then None
    else (if visible kept server p then Some (served kept p)
    else (if in_room kept server then Some (redact (kept_at kept p).event) else None))

-- what is shown of the event is its redacted form
unfoldable pub is_shown_redacted : List Kept → List ℕ → ℕ → Bool
is_shown_redacted kept server p =
    not (is_rejected (kept_at kept p).verdict)
    && (if visible kept server p then is_redacted kept p else in_room kept server)
