-- An offered event, and what a room does with it (Matrix specification, Server-Server API, checks performed on receipt
-- of a PDU).
use Rattle.std.specs.Prelude.{ℕ, nat_le, Bool, true, false, not, if◌then◌else◌, List, codes, length, Option, None, Some, option_map}
use Rattle.mx_redact.specs.Fields.{Event}
use Rattle.mx_redact.specs.Redaction.{redact}
use Rattle.mx_redact.specs.Hashes.{hash_holds}
use Rattle.mx_ident.specs.Identifier.{refuse_if}
use Rattle.mx_pdu.specs.Event.{has_kind}
pub use Rattle.mx_pdu.specs.declared.offering.Offered.{Offered}
use Rattle.mx_graph.specs.Adding.{most_rows}
use Rattle.mx_graph.specs.Record.{place_of}
use Rattle.mx_receipt.specs.Receipt.{Kept, rows_of, kept_at, lacks_cited, verdict, offer_error}
use Rattle.mx_receipt.specs.declared.refusals.NotReceived.{NotReceived}
use Rattle.mx_receipt.specs.declared.refusals.NotReceived.TheVariants as received
use Rattle.mx_room.specs.declared.outcomes.Refusal.{Refusal}
use Rattle.mx_room.specs.declared.outcomes.Outcome.{Outcome}
use Rattle.mx_room.specs.declared.outcomes.Outcome.TheVariants as outcome
use Rattle.mx_access.specs.Acl.{acl_allows}
use Rattle.mx_room.specs.declared.outcomes.Refusal.TheVariants.{AccessList, SecondCreate, Signature, MissingEvents, RoomFull}

-- Server-Server API, checks performed on receipt of a PDU, 3: redacted where its content hash is wrong
abbrev pub as_kept : Offered → Event
as_kept o = if hash_holds o.pdu then o.pdu else redact o.pdu

-- what becomes of an event of a new id; `e` is the event as it would be kept
abbrev pub new_outcome : List Kept → Bool → Event → Outcome
new_outcome kept signed e =
    if has_kind (codes "m.room.create") e then outcome.Refused SecondCreate
    else (if not signed then outcome.Refused Signature
    else (if lacks_cited (rows_of kept) e then outcome.Refused MissingEvents
    else (if nat_le most_rows (length kept) then outcome.Refused RoomFull else outcome.Kept (verdict kept e))))

-- what becomes of an event that a server offers which the access control list allows
unfoldable pub allowed_outcome : List Kept → Offered → Outcome
allowed_outcome kept o =
    elim (place_of (rows_of kept) o.id) [ None ↦ new_outcome kept o.signed (as_kept o) | Some p ↦ outcome.Known (kept_at kept p).verdict ]

-- by the access control list of the current state, whatever the event would make of it
unfoldable pub offer_outcome : List Kept → List ℕ → Offered → Outcome
offer_outcome kept origin o = if acl_allows kept origin then allowed_outcome kept o else outcome.Refused AccessList

-- the event is kept by the call that offers it
abbrev pub is_kept : Outcome → Bool
is_kept (outcome.Kept v) = true
is_kept (outcome.Known v) = false
is_kept (outcome.Refused r) = false

-- the row that this outcome adds
abbrev pub row_by : Offered → Outcome → Option Kept
row_by o (outcome.Kept v) = Some (record { id = o.id; event = as_kept o; verdict = v })
row_by o (outcome.Known v) = None
row_by o (outcome.Refused r) = None

-- a refusal of a record, for private clauses; the first two causes are asked before
abbrev pub refusal_by : NotReceived → Refusal
refusal_by received.Known = SecondCreate
refusal_by received.SecondCreate = SecondCreate
refusal_by received.MissingEvents = MissingEvents
refusal_by received.RoomFull = RoomFull

-- why an event of a new id is not kept, for private clauses
unfoldable pub refusal_error : List Kept → Offered → Option Refusal
refusal_error kept o =
    refuse_if (has_kind (codes "m.room.create") o.pdu) SecondCreate
    (refuse_if (not o.signed) Signature (option_map refusal_by (offer_error (rows_of kept) o.id o.pdu)))
