-- For proofs and private clauses alone.
-- The fields of an event, by their keys.
use Rattle.std.specs.Prelude.{◌≡◌, ℕ, List, codes, filter_map, Option, None, option_and_then, unwrap_or}
use Rattle.std.specs.Coded.{coded_option}
use base.Stored.{Coded-set}
use Rattle.serde_json.specs.Data.{Data, no_items}
use Rattle.serde_json.specs.Find.{as_array, as_str}
use Rattle.mx_redact.specs.Fields.{Event, field, item_list}
use Rattle.mx_pdu.specs.DataCode.{data_code}
use Rattle.mx_redact.specs.declared.event_keys.EventKey.{EventKey}
use Rattle.mx_redact.specs.declared.event_keys.EventKey.TheVariants.{AuthEvents, Content, Depth, EventId, Hashes, Membership, Origin, OriginServerTs, PrevEvents, PrevState, Redacts, RoomId, Sender, Signatures, StateKey, Kind, Unsigned, Other}

abbrev pub name_of : EventKey → List ℕ
name_of AuthEvents = codes "auth_events"
name_of Content = codes "content"
name_of Depth = codes "depth"
name_of EventId = codes "event_id"
name_of Hashes = codes "hashes"
name_of Membership = codes "membership"
name_of Origin = codes "origin"
name_of OriginServerTs = codes "origin_server_ts"
name_of PrevEvents = codes "prev_events"
name_of PrevState = codes "prev_state"
name_of Redacts = codes "redacts"
name_of RoomId = codes "room_id"
name_of Sender = codes "sender"
name_of Signatures = codes "signatures"
name_of StateKey = codes "state_key"
name_of Kind = codes "type"
name_of Unsigned = codes "unsigned"
name_of Other = codes ""

-- the value at a key of an event; no value is at a key that has no name
abbrev pub field_at : EventKey → Event → Option Data
field_at Other e = None
field_at key e = field (name_of key) e

abbrev pub index_of : EventKey → ℕ
index_of AuthEvents = 0
index_of Content = 1
index_of Depth = 2
index_of EventId = 3
index_of Hashes = 4
index_of Membership = 5
index_of Origin = 6
index_of OriginServerTs = 7
index_of PrevEvents = 8
index_of PrevState = 9
index_of Redacts = 10
index_of RoomId = 11
index_of Sender = 12
index_of Signatures = 13
index_of StateKey = 14
index_of Kind = 15
index_of Unsigned = 16
index_of Other = 17

-- the texts in the array at a key
abbrev pub texts_in : EventKey → Event → List (List ℕ)
texts_in key e = filter_map as_str (item_list (unwrap_or (option_and_then as_array (field_at key e)) no_items))

-- what was found at each key is the value there
abbrev pub AreFound : (EventKey → Option Data) → Event → Type 0
AreFound at e = (key : EventKey) → at key ≡ field_at key e

pub AreFound-prop : (at : EventKey → Option Data) (e : Event) → IsProp (AreFound at e)
AreFound-prop at e p q = λ i key. Coded-set (coded_option data_code) (at key) (field_at key e) (p key) (q key) i
