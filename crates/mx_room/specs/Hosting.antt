-- Which create events make a room (Matrix specification, Room Version 6 and Room Version 7, authorization
-- rules, rule 1; the order is ours).
use Rattle.std.specs.Prelude.{nat_lt, not, ◌&&◌, [], codes, length, Option, option_map}
use Rattle.mx_ident.specs.Identifier.{refuse_if}
use Rattle.mx_redact.specs.Fields.{Event, is_text}
use Rattle.mx_redact.specs.Hashes.{hash_holds}
use Rattle.mx_pdu.specs.Event.{has_kind, state_key_of, auth_ids}
use Rattle.mx_auth.specs.Rules.{rules}
use Rattle.mx_orders.specs.StateMap.{view}
use Rattle.mx_receipt.specs.Receipt.{created_version}
use Rattle.mx_room.specs.Offer.{Offered}
use Rattle.mx_room.specs.declared.hosting.NotARoom.{NotARoom}
use Rattle.mx_room.specs.declared.hosting.NotARoom.TheVariants.{NotACreateEvent, CitesAuthEvents, Unsigned, BadContentHash, BreaksRule}

-- why a create event makes no room, in the order of the checks
unfoldable pub host_error : Offered → Option NotARoom
host_error o =
    refuse_if (not (has_kind (codes "m.room.create") o.pdu && is_text [] (state_key_of o.pdu))) NotACreateEvent
    (refuse_if (nat_lt 0 (length (auth_ids o.pdu))) CitesAuthEvents
    (refuse_if (not o.signed) Unsigned
    (refuse_if (not (hash_holds o.pdu)) BadContentHash (option_map BreaksRule (rules (created_version o.pdu) o.pdu (view [] []))))))

-- why a create event that a room kept makes it no more: its signature and its content hash are not asked again
unfoldable pub reopen_error : Event → Option NotARoom
reopen_error e =
    refuse_if (not (has_kind (codes "m.room.create") e && is_text [] (state_key_of e))) NotACreateEvent
    (refuse_if (nat_lt 0 (length (auth_ids e))) CitesAuthEvents (option_map BreaksRule (rules (created_version e) e (view [] []))))
