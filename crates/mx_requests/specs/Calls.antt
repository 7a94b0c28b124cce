-- What a request asks for, or its first fault (Matrix specification, Server-Server API: transactions, retrieving events,
-- joining rooms). The faults come in this order: the body's length, the path, the method, the origin, the segments of the
-- path, the parameters, the body.
use Rattle.std.specs.Prelude.{ℕ, nat_lt, Bool, not, ◌&&◌, if◌then◌else◌, List, codes, bytes_eq, length, map, Option, None, Some, option_map, option_and_then, Ok}
use Rattle.std.specs.Str.{is_utf8}
use Rattle.serde_json.specs.Data.{Data}
use Rattle.mx_redact.specs.Fields.{Event, is_text}
use Rattle.mx_pdu.specs.Event.{has_kind, has_membership, room_of, sender_of, state_key_of}
use Rattle.mx_pdu.specs.Format.{is_well_formed}
use Rattle.mx_room.specs.declared.queries.Query.{Query}
use Rattle.mx_room.specs.declared.queries.Query.TheVariants as ask
use Rattle.mx_requests.specs.declared.faults.Fault.TheVariants.{WrongForm, Invalid, UnknownPath, UnknownMethod, TooLarge}
use Rattle.mx_requests.specs.declared.faults.InvalidPart.TheVariants as invalid
use Rattle.mx_requests.specs.declared.targets.routes.Route.{Route}
use Rattle.mx_requests.specs.declared.targets.routes.Route.TheVariants as route
use Rattle.mx_requests.specs.Authorization.{origin_of}
use Rattle.mx_requests.specs.Targets.{route_of, method_of, path_of, query_of, room_at, user_at, event_at, txn_at, parameters, all_named}
use Rattle.mx_requests.specs.Requests.{Read, ok_or_fault, unless, on_ok, body_value, events_in, event_id_parameter, v_parameters, limit_parameter, missing_query}
use Rattle.mx_pdu.specs.Offers.{Judge, offer_by}
use Rattle.mx_pdu.specs.declared.offering.Offered.{Offered}

-- the first Authorization header, where there is one
pub record Request : Type 0 where
  pub method : List ℕ
  pub target : List ℕ
  pub authorization : Option (List ℕ)
  pub body : List ℕ

-- a call by its origin: a transaction with its well-formed events, a query, or a join
pub data Call : Type 0 where
  sends : (origin txn : List ℕ) → List Offered → Call
  asks : (origin : List ℕ) → Query → Call
  joins : (origin : List ℕ) → Offered → Call

-- ---- Server-Server API, send_join

-- a join whose state key is its sender
abbrev pub is_own_join : Event → Bool
is_own_join e =
    has_kind (codes "m.room.member") e && is_text (sender_of e) (state_key_of e) && has_membership (codes "join") e

-- the event is of the path's room, has the path's id, and is a join
abbrev pub join_of : (origin room id : List ℕ) → Offered → Read Call
join_of origin room id o =
    unless (not (bytes_eq (room_of o.pdu) room)) (Invalid invalid.RoomId)
    (unless (not (bytes_eq o.id id)) (Invalid invalid.EventId)
    (unless (not (is_own_join o.pdu)) (Invalid invalid.Event) (Ok (joins origin o))))

abbrev pub join_read : (Event → Offered) → (origin room id : List ℕ) → Data → Read Call
join_read offer origin room id e = unless (not (is_well_formed e)) WrongForm (join_of origin room id (offer e))

-- ---- each route, by the origin, the path, the parameters and the body

-- the parameters of a query
abbrev pub Given : Type 0
Given = List (List ℕ × List ℕ)

-- the events of a transaction, as they are offered
abbrev pub events_offered : (Event → Offered) → Data → Option (List Offered)
events_offered offer d = option_map (map offer) (events_in d)

abbrev pub send_call : (Event → Offered) → (origin path body : List ℕ) → Read Call
send_call offer origin path body =
    on_ok (txn_at path 0) (λ txn.
    on_ok (body_value body) (λ d.
    on_ok (ok_or_fault WrongForm (events_offered offer d)) (λ events. Ok (sends origin txn events))))

abbrev pub event_call : (origin path : List ℕ) → Read Call
event_call origin path = on_ok (event_at path 0) (λ id. Ok (asks origin (ask.Event id)))

abbrev pub state_call : (origin path : List ℕ) → Given → Read Call
state_call origin path given =
    on_ok (room_at path 0) (λ room. on_ok (event_id_parameter given) (λ id. Ok (asks origin (ask.State room id))))

abbrev pub state_ids_call : (origin path : List ℕ) → Given → Read Call
state_ids_call origin path given =
    on_ok (room_at path 0) (λ room. on_ok (event_id_parameter given) (λ id. Ok (asks origin (ask.StateIds room id))))

abbrev pub event_auth_call : (origin path : List ℕ) → Read Call
event_auth_call origin path =
    on_ok (room_at path 0) (λ room. on_ok (event_at path 1) (λ id. Ok (asks origin (ask.EventAuth room id))))

abbrev pub backfill_call : (origin path : List ℕ) → Given → Read Call
backfill_call origin path given =
    on_ok (room_at path 0) (λ room.
    on_ok (v_parameters given) (λ from.
    on_ok (limit_parameter given) (λ limit. Ok (asks origin (ask.Backfill room from limit)))))

abbrev pub missing_events_call : (origin path body : List ℕ) → Read Call
missing_events_call origin path body =
    on_ok (room_at path 0) (λ room.
    on_ok (body_value body) (λ d. on_ok (ok_or_fault WrongForm (missing_query room d)) (λ q. Ok (asks origin q))))

abbrev pub make_join_call : (origin path : List ℕ) → Given → Read Call
make_join_call origin path given =
    on_ok (room_at path 0) (λ room.
    on_ok (user_at path 1) (λ user. Ok (asks origin (ask.MakeJoin room user (all_named (codes "ver") given)))))

abbrev pub send_join_call : (Event → Offered) → (origin path body : List ℕ) → Read Call
send_join_call offer origin path body =
    on_ok (room_at path 0) (λ room.
    on_ok (event_at path 1) (λ id. on_ok (body_value body) (join_read offer origin room id)))

-- a request of a known origin, on its route
abbrev pub call_on : (Event → Offered) → Route → (origin target body : List ℕ) → Read Call
call_on offer route.Send origin target body = send_call offer origin (path_of target) body
call_on offer route.Event origin target body = event_call origin (path_of target)
call_on offer route.State origin target body = state_call origin (path_of target) (parameters (query_of target))
call_on offer route.StateIds origin target body = state_ids_call origin (path_of target) (parameters (query_of target))
call_on offer route.EventAuth origin target body = event_auth_call origin (path_of target)
call_on offer route.Backfill origin target body = backfill_call origin (path_of target) (parameters (query_of target))
call_on offer route.GetMissingEvents origin target body = missing_events_call origin (path_of target) body
call_on offer route.MakeJoin origin target body = make_join_call origin (path_of target) (parameters (query_of target))
call_on offer route.SendJoin origin target body = send_join_call offer origin (path_of target) body

-- ---- the whole

abbrev pub largest_body : ℕ
largest_body = 8388608

-- bytes that are text
abbrev pub text_of : List ℕ → Option (List ℕ)
text_of bytes = if is_utf8 bytes then Some bytes else None

-- a target that is no text has no route
abbrev pub route_at : List ℕ → Option Route
route_at target = option_and_then (λ text. route_of (path_of text)) (text_of target)

-- the route of a request, by the body's length, the path and the method
abbrev pub routed : Request → Read Route
routed r =
    unless (nat_lt largest_body (length r.body)) TooLarge
    (on_ok (ok_or_fault UnknownPath (route_at r.target)) (λ route.
    unless (not (bytes_eq r.method (method_of route))) UnknownMethod (Ok route)))

-- a header that is no text counts as none
abbrev pub origin_in : List ℕ → Request → Read (List ℕ)
origin_in server r = origin_of server (option_and_then text_of r.authorization)

-- what a request to this server asks for, under a way to offer events
unfoldable pub call_under : (Event → Offered) → List ℕ → Request → Read Call
call_under offer server r =
    on_ok (routed r) (λ route. on_ok (origin_in server r) (λ origin. call_on offer route origin r.target r.body))

abbrev pub call_of : Judge → List ℕ → Request → Read Call
call_of judges server r = call_under (offer_by judges) server r
