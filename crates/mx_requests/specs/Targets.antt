-- The target of a request: its route, the decoded segments of its path, and its parameters (Matrix specification,
-- Server-Server API, the routes under `/_matrix/federation`).
use Rattle.std.specs.Prelude.{ℕ, zero, suc, ◌==◌, Bool, true, ◌&&◌, if◌then◌else◌, List, [], ◌∷◌, codes, bytes_eq, map, filter, Option, Some, None, option_map, Result, Ok, Err}
use Rattle.std.specs.List.{before_first, after_first}
use Rattle.std.specs.Str.{is_utf8}
use Rattle.std.specs.Str.Lossy.{utf8_lossy}
use Rattle.matchit.specs.Rows.{RowsOf}
use Rattle.matchit.specs.Order.{placed}
use Rattle.matchit.specs.Route.{Scan, parse_route}
use Rattle.matchit.specs.Router.{RouteOf, route_from}
use Rattle.matchit.specs.Seek.{first}
use Rattle.matchit.specs.declared.error.InsertError.{InsertError}
use Rattle.percent_encoding.specs.Percent.{percent_decode}
use Rattle.form_urlencoded.specs.Form.{raw_pairs, decode}
use Rattle.mx_ident.specs.Identifier.{is_room_id, is_user_id, is_event_id}
use Rattle.mx_requests.specs.declared.faults.Fault.{Fault}
use Rattle.mx_requests.specs.declared.faults.Fault.TheVariants.{Invalid}
use Rattle.mx_requests.specs.declared.faults.InvalidPart.{InvalidPart}
use Rattle.mx_requests.specs.declared.faults.InvalidPart.TheVariants as invalid
use Rattle.mx_requests.specs.declared.targets.routes.Route.{Route}
use Rattle.mx_requests.specs.declared.targets.routes.Route.TheVariants.{Send, Event, State, StateIds, EventAuth, Backfill, GetMissingEvents, MakeJoin, SendJoin}

-- ---- the path

abbrev pub is_question_mark : ℕ → Bool
is_question_mark c = c == 63

abbrev pub path_of : List ℕ → List ℕ
path_of target = before_first is_question_mark target

-- what stands after the first `?`
abbrev pub query_of : List ℕ → List ℕ
query_of target = after_first is_question_mark target

-- ---- the routes

-- the pattern of a route's paths, in which a parameter stands in braces
abbrev pub pattern_of : Route → List ℕ
pattern_of Send = codes "/_matrix/federation/v1/send/{txn_id}"
pattern_of Event = codes "/_matrix/federation/v1/event/{event_id}"
pattern_of State = codes "/_matrix/federation/v1/state/{room_id}"
pattern_of StateIds = codes "/_matrix/federation/v1/state_ids/{room_id}"
pattern_of EventAuth = codes "/_matrix/federation/v1/event_auth/{room_id}/{event_id}"
pattern_of Backfill = codes "/_matrix/federation/v1/backfill/{room_id}"
pattern_of GetMissingEvents = codes "/_matrix/federation/v1/get_missing_events/{room_id}"
pattern_of MakeJoin = codes "/_matrix/federation/v1/make_join/{room_id}/{user_id}"
pattern_of SendJoin = codes "/_matrix/federation/v2/send_join/{room_id}/{event_id}"

abbrev pub Table : Type 0
Table = RowsOf (RouteOf Route)

-- a table with one route more
abbrev pub add : Result Scan InsertError → Route → Table → Table
add (Ok s) route rows = placed (s.pattern, route_from s route) rows
add (Err e) route rows = rows

abbrev pub with_route : Route → Table → Table
with_route route rows = add (parse_route (pattern_of route)) route rows

unfoldable pub table : Table
table =
    with_route SendJoin
    (with_route MakeJoin
    (with_route GetMissingEvents
    (with_route Backfill
    (with_route EventAuth (with_route StateIds (with_route State (with_route Event (with_route Send []))))))))

abbrev pub method_of : Route → List ℕ
method_of Send = codes "PUT"
method_of SendJoin = codes "PUT"
method_of GetMissingEvents = codes "POST"
method_of _ = codes "GET"

-- the route of a path
unfoldable pub route_of : List ℕ → Option Route
route_of path = option_map (λ (r : RouteOf Route). r.value) (first table path)

-- ---- segments

abbrev pub is_slash : ℕ → Bool
is_slash c = c == 47

-- what stands after so many slashes
abbrev pub after_slashes : ℕ → List ℕ → List ℕ
after_slashes zero s = s
after_slashes (suc n) s = after_first is_slash (after_slashes n s)

-- the segment that a route's parameter in this place has of a path, not decoded: five slashes are the route's own
abbrev pub segment_at : List ℕ → ℕ → List ℕ
segment_at path n = before_first is_slash (after_slashes n (after_slashes 5 path))

-- a segment decoded: UTF-8, and of its kind
abbrev pub decoded : (List ℕ → Bool) → InvalidPart → List ℕ → Result (List ℕ) Fault
decoded is_kind part segment =
    if is_utf8 (percent_decode segment) && is_kind (percent_decode segment)
    then Ok (percent_decode segment)
    else Err (Invalid part)

-- the segment in this place, of this kind
abbrev pub room_at : List ℕ → ℕ → Result (List ℕ) Fault
room_at path n = decoded is_room_id invalid.RoomId (segment_at path n)

abbrev pub user_at : List ℕ → ℕ → Result (List ℕ) Fault
user_at path n = decoded is_user_id invalid.UserId (segment_at path n)

abbrev pub event_at : List ℕ → ℕ → Result (List ℕ) Fault
event_at path n = decoded is_event_id invalid.EventId (segment_at path n)

-- a transaction's number is any text
abbrev pub txn_at : List ℕ → ℕ → Result (List ℕ) Fault
txn_at path n = decoded (λ s. true) invalid.Path (segment_at path n)

-- ---- parameters

-- a name or a value; bytes that are not UTF-8 read as U+FFFD
abbrev pub decoded_text : List ℕ → List ℕ
decoded_text bytes = utf8_lossy (decode bytes)

abbrev pub decoded_pair : List ℕ × List ℕ → List ℕ × List ℕ
decoded_pair p = (decoded_text p.0, decoded_text p.1)

-- the names and values, decoded
abbrev pub parameters : List ℕ → List (List ℕ × List ℕ)
parameters query = map decoded_pair (raw_pairs query)

-- each value under a name
abbrev pub all_named : List ℕ → List (List ℕ × List ℕ) → List (List ℕ)
all_named name ps = map (λ p. p.1) (filter (λ p. bytes_eq p.0 name) ps)

abbrev pub first_of : List (List ℕ) → Option (List ℕ)
first_of [] = None
first_of (v ∷ vs) = Some v

-- of a name that comes twice the first value counts
abbrev pub first_named : List ℕ → List (List ℕ × List ℕ) → Option (List ℕ)
first_named name ps = first_of (all_named name ps)
