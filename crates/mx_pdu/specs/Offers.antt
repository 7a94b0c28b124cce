-- An event with its id and a verifier's answer on its signatures (Matrix specification, Server-Server API, validating
-- hashes and signatures on received events).
use Rattle.std.specs.Prelude.{ℕ, Bool, List, codes}
use Rattle.serde_json.specs.Data.{Data}
use Rattle.mx_ident.specs.Identifier.{server_of}
use Rattle.mx_redact.specs.Fields.{Event, value_at}
use Rattle.mx_redact.specs.Hashes.{event_id, signing_text}
use Rattle.mx_pdu.specs.Event.{sender_of}
pub use Rattle.mx_pdu.specs.declared.offering.Offered.{Offered}

-- whether a server's signatures on these bytes are accepted
abbrev pub Judge : Type 0
Judge = (server bytes : List ℕ) (signatures : Data) → Bool

-- by the sender's server, on the event's signing text
abbrev pub signed_by : Judge → Event → Bool
signed_by judges e = judges (server_of (sender_of e)) (signing_text e) (value_at (codes "signatures") e)

abbrev pub offer_by : Judge → Event → Offered
offer_by judges e = record { pdu = e; id = event_id e; signed = signed_by judges e }
