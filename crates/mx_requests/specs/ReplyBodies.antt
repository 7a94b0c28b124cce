-- The status and the body of the reply to a query (Matrix specification, Server-Server API: retrieving events,
-- backfilling and retrieving missing events, joining rooms).
use Rattle.std.specs.Prelude.{ℕ, List, [], ◌∷◌, codes, Result, Ok, Err}
use Rattle.serde_json.specs.Data.{Data, Items, no_items, item, no_members, member, put, string, array, object, number, unsigned}
use Rattle.mx_canon.specs.Canonical.{canonical_text}
use Rattle.mx_redact.specs.Fields.{Event, members_of}
use Rattle.mx_auth.specs.Versions.{version_text}
use Rattle.mx_auth.specs.declared.versions.RoomVersion.{RoomVersion}
use Rattle.mx_room.specs.declared.queries.Query.{Query}
use Rattle.mx_room.specs.declared.queries.Query.TheVariants.{Missing}
use Rattle.mx_room.specs.declared.queries.QueryReply.{QueryReply}
use Rattle.mx_room.specs.declared.queries.QueryReply.TheVariants as gives
use Rattle.mx_room.specs.declared.queries.Denied.{Denied}
use Rattle.mx_requests.specs.declared.faults.Fault.{Fault}
use Rattle.mx_requests.specs.declared.faults.Fault.TheVariants as fault
use Rattle.mx_requests.specs.Faults.{fault_body, fault_status}

pub record Response : Type 0 where
  pub status : ℕ
  pub body : List ℕ

abbrev pub success : List ℕ → Response
success body = record { status = 200; body = body }

abbrev pub failure : Fault → Response
failure f = record { status = fault_status f; body = fault_body f }

-- ---- bodies

abbrev pub event_items : List Event → Items
event_items [] = no_items
event_items (e ∷ es) = item e (event_items es)

abbrev pub id_items : List (List ℕ) → Items
id_items [] = no_items
id_items (s ∷ ss) = item (string s) (id_items ss)

abbrev pub event_array : List Event → Data
event_array es = array (event_items es)

abbrev pub id_array : List (List ℕ) → Data
id_array ss = array (id_items ss)

-- PDUs of this server, at a time in milliseconds
abbrev pub sent_events : List ℕ → ℕ → List Event → Data
sent_events server now es =
    object (member (codes "origin") (string server)
    (member (codes "origin_server_ts") (number (unsigned now)) (member (codes "pdus") (event_array es) no_members)))

abbrev pub state_data : (pdus chain : List Event) → Data
state_data pdus chain =
    object (member (codes "auth_chain") (event_array chain) (member (codes "pdus") (event_array pdus) no_members))

abbrev pub state_ids_data : (pdus chain : List (List ℕ)) → Data
state_ids_data pdus chain =
    object (member (codes "auth_chain_ids") (id_array chain) (member (codes "pdu_ids") (id_array pdus) no_members))

abbrev pub chain_data : List Event → Data
chain_data chain = object (member (codes "auth_chain") (event_array chain) no_members)

abbrev pub missing_data : List Event → Data
missing_data es = object (member (codes "events") (event_array es) no_members)

-- Server-Server API, make_join: the template names this server
abbrev pub with_origin : List ℕ → Event → Event
with_origin server e = object (put (codes "origin") (string server) (members_of e))

abbrev pub template_data : RoomVersion → Event → Data
template_data v e =
    object (member (codes "event") e (member (codes "room_version") (string (version_text v)) no_members))

-- backfill gives PDUs of this server, get_missing_events the events alone
abbrev pub events_data : List ℕ → ℕ → Query → List Event → Data
events_data server now (Missing room earliest latest limit min_depth) es = missing_data es
events_data server now q es = sent_events server now es

abbrev pub query_data : List ℕ → ℕ → Query → QueryReply → Data
query_data server now q (gives.Event e) = sent_events server now (e ∷ [])
query_data server now q (gives.State pdus chain) = state_data pdus chain
query_data server now q (gives.StateIds pdus chain) = state_ids_data pdus chain
query_data server now q (gives.EventAuth chain) = chain_data chain
query_data server now q (gives.Events es) = events_data server now q es
query_data server now q (gives.Template v e) = template_data v (with_origin server e)

-- ---- replies

-- the reply of this server, at a time, to a query that was answered so
abbrev pub query_reply : List ℕ → ℕ → Query → Result QueryReply Denied → Response
query_reply server now q (Ok reply) = success (canonical_text (query_data server now q reply))
query_reply server now q (Err why) = failure (fault.Denied why)
