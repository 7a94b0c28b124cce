-- Values that were offered and are no events, in words and as a line (docs/AUDIT.md).
use Rattle.std.specs.Prelude.{ℕ, List, [], ◌∷◌, codes, Some, option_map, string_bytes}
use Rattle.serde_json.specs.Data.{number, string, unsigned}
use Rattle.mx_lines.specs.Lines.{line_of}
use Rattle.mx_lines.specs.declared.malformed_events.EventField.{EventField}
use Rattle.mx_lines.specs.declared.malformed_events.EventField.TheVariants as field
use Rattle.mx_lines.specs.declared.malformed_events.EventFault.{EventFault}
use Rattle.mx_lines.specs.declared.malformed_events.EventFault.TheVariants as fault
use Rattle.mx_lines.specs.declared.malformed_events.MalformedEvent.{MalformedEvent}

abbrev pub field_name : EventField → List ℕ
field_name field.AuthEvents = codes "auth_events"
field_name field.Content = codes "content"
field_name field.Depth = codes "depth"
field_name field.Hashes = codes "hashes"
field_name field.OriginServerTs = codes "origin_server_ts"
field_name field.PrevEvents = codes "prev_events"
field_name field.RoomId = codes "room_id"
field_name field.Sender = codes "sender"
field_name field.Signatures = codes "signatures"
field_name field.StateKey = codes "state_key"
field_name field.Type = codes "type"

abbrev pub fault_text : EventFault → List ℕ
fault_text fault.NotAnObject = codes "not an object"
fault_text fault.NotCanonical = codes "not canonical"
fault_text fault.TooLong = codes "too long"
fault_text fault.Missing = codes "missing"
fault_text fault.WrongKind = codes "wrong kind"
fault_text fault.OverLimit = codes "over limit"
fault_text fault.TooDeep = codes "nested too deep"

-- how many events the room had, which field of the value has a fault, if it is one field's, and which fault, who sent it,
-- and at which place of the transaction, from 1
unfoldable pub malformed_text : MalformedEvent → List ℕ
malformed_text m = line_of (
    (codes "after", Some (number (unsigned m.offering.after)))
    ∷ (codes "because", Some (string (codes "malformed")))
    ∷ (codes "fault", Some (string (fault_text m.fault)))
    ∷ (codes "field", option_map string (option_map field_name m.field))
    ∷ (codes "origin", option_map string m.offering.origin)
    ∷ (codes "position", Some (number (unsigned m.position)))
    ∷ (codes "transaction", option_map string (option_map string_bytes m.offering.transaction))
    ∷ (codes "verdict", Some (string (codes "refused"))) ∷ [])
