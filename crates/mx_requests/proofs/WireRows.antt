-- Worked rows: headers, faults, paths and queries, each computed.
use Rattle.std.specs.Prelude.{◌≡◌, refl, ℕ, List, [], ◌∷◌, codes, map, Option, None, Some, Result, Ok, Err, replicate}
use Prim.Native.String.{String}
use Rattle.mx_auth.specs.declared.versions.RoomVersion.TheVariants.{V6, V7}
use Rattle.mx_requests.specs.declared.faults.Fault.{Fault}
use Rattle.mx_room.specs.declared.queries.Denied.TheVariants.{WrongVersion}
use Rattle.mx_requests.specs.declared.faults.Fault.TheVariants.{NoOrigin, WrongDestination, Denied, Missing, Invalid}
use Rattle.mx_requests.specs.declared.faults.MissingParameter.TheVariants as missing
use Rattle.mx_requests.specs.declared.faults.InvalidPart.TheVariants as invalid
use Rattle.mx_requests.specs.declared.targets.routes.Route.{Route}
use Rattle.mx_requests.specs.declared.targets.routes.Route.TheVariants.{Send, Event, State, StateIds, EventAuth, Backfill, GetMissingEvents, MakeJoin, SendJoin}
use Rattle.mx_requests.specs.Faults.{fault_body}
use Rattle.mx_requests.specs.Authorization.{origin_of}
use Rattle.mx_requests.specs.Targets.{table, path_of, query_of, room_at, event_at, txn_at, parameters, first_named, all_named}
use Rattle.mx_requests.proofs.RouteLemmas.{quick, with_taken, with_segments}
use Rattle.mx_requests.proofs.OnExamples.{wire_on_examples}

-- ---- authorization, at hub.example

abbrev origin : String → Result (List ℕ) Fault
origin s = origin_of (codes "hub.example") (Some (codes s))

abbrev b_server : Result (List ℕ) Fault
b_server = Ok (codes "b.example")

origin-bare : origin "X-Matrix origin=b.example,key=\"k\",sig=\"s\"" ≡ b_server
unfolding wire_on_examples
origin-bare = refl

origin-quoted : origin "x-matrix  origin=\"b.example\" , destination=\"hub.example\"" ≡ b_server
unfolding wire_on_examples
origin-quoted = refl

origin-elsewhere : origin "X-Matrix origin=b.example,destination=z.example" ≡ Err WrongDestination
unfolding wire_on_examples
origin-elsewhere = refl

origin-bearer : origin "Bearer x" ≡ Err NoOrigin
unfolding wire_on_examples
origin-bearer = refl

origin-absent : origin_of (codes "hub.example") None ≡ Err NoOrigin
unfolding wire_on_examples
origin-absent = refl

-- names in any case, a backslash before a character, the first of a name that comes twice
origin-escaped : origin "X-MATRIX ORIGIN=\"b\\.exam\\ple\",origin=c.example,other=" ≡ b_server
unfolding wire_on_examples
origin-escaped = refl

-- an unquoted value goes to a comma or a space, and may hold `"`, `\` and `=`
origin-unquoted : origin "X-Matrix origin=b\"\\=c" ≡ Ok (codes "b\"\\=c")
unfolding wire_on_examples
origin-unquoted = refl

origin-empty_first : origin "X-Matrix origin=,origin=b.example" ≡ Err NoOrigin
unfolding wire_on_examples
origin-empty_first = refl

-- what is outside the form
abbrev broken : List String
broken =
    "X-Matrix" ∷ "X-Matrix " ∷ " X-Matrix origin=b" ∷ "X-Matrixorigin=b" ∷ "X-Matrix origin=b " ∷ "X-Matrix origin=b,"
    ∷ "X-Matrix ,origin=b" ∷ "X-Matrix origin=b,,key=k" ∷ "X-Matrix origin =b" ∷ "X-Matrix origin= b" ∷ "X-Matrix origin=\"b"
    ∷ "X-Matrix origin=\"b\\" ∷ "X-Matrix origin=\"b\"c" ∷ "X-Matrix origin=b\t,key=k" ∷ "X-Matrix =b" ∷ "X-Matrix origin" ∷ "X-Matrix origin=b key=k"
    ∷ []

origin-broken : map origin broken ≡ replicate 17 (Err NoOrigin)
unfolding wire_on_examples
origin-broken = refl

-- ---- bodies of faults

body-not_utf8 : fault_body (Invalid invalid.EventId) ≡ codes "{\"errcode\":\"M_INVALID_PARAM\",\"error\":\"invalid event id\"}"
unfolding wire_on_examples
body-not_utf8 = refl

body-missing : fault_body (Missing missing.EventId) ≡ codes "{\"errcode\":\"M_MISSING_PARAM\",\"error\":\"missing event_id\"}"
unfolding wire_on_examples
body-missing = refl

body-incompatible : fault_body (Denied (WrongVersion V6)) ≡ codes "{\"errcode\":\"M_INCOMPATIBLE_ROOM_VERSION\",\"error\":\"room version\",\"room_version\":\"6\"}"
unfolding wire_on_examples
body-incompatible = refl

body-incompatible_7 : fault_body (Denied (WrongVersion V7)) ≡ codes "{\"errcode\":\"M_INCOMPATIBLE_ROOM_VERSION\",\"error\":\"room version\",\"room_version\":\"7\"}"
unfolding wire_on_examples
body-incompatible_7 = refl

-- ---- paths

abbrev one : String → List (List ℕ)
one a = codes a ∷ []

abbrev both : String → String → List (List ℕ)
both a b = codes a ∷ codes b ∷ []

abbrev examples : List (List ℕ)
examples =
    codes "/_matrix/federation/v1/send/%FF" ∷ codes "/_matrix/federation/v1/event/$1" ∷ codes "/_matrix/federation/v1/state/!r:a"
    ∷ codes "/_matrix/federation/v1/state_ids/!r:a" ∷ codes "/_matrix/federation/v1/event_auth/!r:a/$1"
    ∷ codes "/_matrix/federation/v1/backfill/!r:a" ∷ codes "/_matrix/federation/v1/get_missing_events/!r:a"
    ∷ codes "/_matrix/federation/v1/make_join/!r:a/@u:b" ∷ codes "/_matrix/federation/v2/send_join/!r:a/$1" ∷ []

abbrev wanted : List (Option (Route × List (List ℕ)))
wanted =
    Some (Send, one "%FF") ∷ Some (Event, one "$1") ∷ Some (State, one "!r:a") ∷ Some (StateIds, one "!r:a")
    ∷ Some (EventAuth, both "!r:a" "$1") ∷ Some (Backfill, one "!r:a") ∷ Some (GetMissingEvents, one "!r:a")
    ∷ Some (MakeJoin, both "!r:a" "@u:b") ∷ Some (SendJoin, both "!r:a" "$1") ∷ []

-- the parameters of a route take the segments after the fifth slash, by the router's words and by ours
routes-taken : map (λ path. with_taken path (quick table path)) examples ≡ wanted
unfolding wire_on_examples
routes-taken = refl

routes-segments : map (λ path. with_segments path (quick table path)) examples ≡ wanted
unfolding wire_on_examples
routes-segments = refl

-- no route: a doubled slash, one at the end, an empty segment, another case, an encoded slash, too many segments, too few,
-- another version
path-no_route : map (λ s. quick table (codes s)) ("" ∷ "/" ∷ "/x" ∷ "/_matrix/federation/v1/event//$1" ∷ "/_matrix/federation/v1/event/$1/" ∷ "/_matrix/federation/v1/event/" ∷ "/_matrix/federation/v1/Event/$1" ∷ "/_matrix/federation/v1%2Fevent/$1" ∷ "/_matrix/federation/v1/event/$1/$2" ∷ "/_matrix/federation/v1/event_auth/!r:a" ∷ "/_matrix/federation/v1/send_join/!r:a/$1" ∷ "//_matrix/federation/v1/event/$1" ∷ [])
    ≡ replicate 12 None
unfolding wire_on_examples
path-no_route = refl

-- the path goes to the first `?`, and an encoded slash is part of its segment
path-encoded : event_at (path_of (codes "/_matrix/federation/v1/event/$a%2Fb%3F?c?d")) 0 ≡ Ok (codes "$a/b?")
unfolding wire_on_examples
path-encoded = refl

path-query : query_of (codes "/x?c?d") ≡ codes "c?d"
path-query = refl

-- an escape that is none stands for itself
path-no_escape : event_at (codes "/_matrix/federation/v1/event/$%4") 0 ≡ Ok (codes "$%4")
unfolding wire_on_examples
path-no_escape = refl

event-not_utf8 : event_at (codes "/_matrix/federation/v1/event/%FF") 0 ≡ Err (Invalid invalid.EventId)
unfolding wire_on_examples
event-not_utf8 = refl

room-first : room_at (codes "/_matrix/federation/v1/event_auth/r/e") 0 ≡ Err (Invalid invalid.RoomId)
unfolding wire_on_examples
room-first = refl

event-second : event_at (codes "/_matrix/federation/v1/event_auth/!r:a/e") 1 ≡ Err (Invalid invalid.EventId)
unfolding wire_on_examples
event-second = refl

send-number : txn_at (codes "/_matrix/federation/v1/send/%FF") 0 ≡ Err (Invalid invalid.Path)
unfolding wire_on_examples
send-number = refl

-- ---- parameters

abbrev named : String → String → Option (List ℕ)
named name query = first_named (codes name) (parameters (codes query))

parameter-first : named "event_id" "event_id=%241&event_id=x" ≡ Some (codes "$1")
unfolding wire_on_examples
parameter-first = refl

parameter-empty : named "event_id" "event_id=&event_id=$1" ≡ Some []
unfolding wire_on_examples
parameter-empty = refl

parameter-absent : named "event_id" "" ≡ None
unfolding wire_on_examples
parameter-absent = refl

parameter-lossy : named "event_id" "event_id=$%FF" ≡ Some (36 ∷ 239 ∷ 191 ∷ 189 ∷ [])
unfolding wire_on_examples
parameter-lossy = refl

parameter-all : all_named (codes "v") (parameters (codes "v=$1&limit=00250&v=$+2")) ≡ codes "$1" ∷ codes "$ 2" ∷ []
unfolding wire_on_examples
parameter-all = refl
