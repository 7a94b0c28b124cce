-- Worked rows: requests read whole, each computed. An event's id is not computed here, but handed in.
use Rattle.std.specs.Prelude.{◌≡◌, refl, ⊤, ℕ, nat_lt, length, true, List, [], ◌∷◌, ◌++◌, codes, map, Option, None, Some, Ok, Err, replicate}
use Rattle.std.specs.Fmt.{digits}
use Prim.Native.String.{String}
use Rattle.serde_json.specs.Data.{Data}
use Rattle.serde_json.proofs.OnLiterals.{serde_json_on_literals}
use Rattle.mx_redact.specs.Fields.{Event}
use Rattle.mx_pdu.specs.Format.{format_error, is_well_formed}
use Rattle.mx_room.specs.declared.queries.Query.TheVariants as ask
use Rattle.mx_requests.specs.declared.faults.Fault.TheVariants.{NotJson, WrongForm, Missing, Invalid, NoOrigin, UnknownPath, UnknownMethod, TooLarge}
use Rattle.mx_requests.specs.declared.faults.MissingParameter.TheVariants as missing
use Rattle.mx_requests.specs.declared.faults.InvalidPart.TheVariants as invalid
use Rattle.mx_requests.specs.Requests.{Read, on_ok, body_value}
use Rattle.mx_pdu.specs.declared.offering.Offered.{Offered}
use Rattle.mx_requests.specs.Calls.{Request, Call, sends, asks, joins, call_under, largest_body}
use Rattle.mx_requests.proofs.OnExamples.{wire_on_examples}

unfoldable pub calls_on_examples : ⊤
unfolding digits wire_on_examples serde_json_on_literals format_error is_well_formed call_under
calls_on_examples = tt

-- every event has the id $j, and is signed
abbrev as_j : Event → Offered
as_j e = record { pdu = e; id = codes "$j"; signed = true }

abbrev read : Request → Read Call
read r = call_under as_j (codes "hub.example") r

abbrev from_b : Option (List ℕ)
from_b = Some (codes "X-Matrix origin=b.example,key=k,sig=s")

abbrev b_server : List ℕ
b_server = codes "b.example"

abbrev call : String → String → List ℕ → Read Call
call method target body =
    read (record { method = codes method; target = codes target; authorization = from_b; body = body })

abbrev get : String → Read Call
get target = call "GET" target []

-- ---- the order of faults

abbrev by : Option (List ℕ) → String → String → Read Call
by authorization method target =
    read (record { method = codes method; target = codes target; authorization = authorization; body = [] })

order-first : by None "POST" "/x" ∷ by None "HEAD" "/_matrix/federation/v1/event/x" ∷ by None "GET" "/_matrix/federation/v1/event/x" ∷ [] ≡ Err UnknownPath ∷ Err UnknownMethod ∷ Err NoOrigin ∷ []
unfolding calls_on_examples
order-first = refl

order-segments : map get ("/_matrix/federation/v1/event_auth/r/e" ∷ "/_matrix/federation/v1/event_auth/!r:a/e" ∷ "/_matrix/federation/v1/backfill/r" ∷ []) ≡ Err (Invalid invalid.RoomId) ∷ Err (Invalid invalid.EventId) ∷ Err (Invalid invalid.RoomId) ∷ []
unfolding calls_on_examples
order-segments = refl

order-parameters : map get ("/_matrix/federation/v1/backfill/!r:a?limit=x" ∷ "/_matrix/federation/v1/backfill/!r:a?v=$1&v=x&limit=x" ∷ "/_matrix/federation/v1/backfill/!r:a?v=$1&limit=" ∷ "/_matrix/federation/v1/state/!r:a" ∷ []) ≡ Err (Missing missing.V) ∷ Err (Invalid invalid.EventId) ∷ Err (Invalid invalid.Limit) ∷ Err (Missing missing.EventId) ∷ []
unfolding calls_on_examples
order-parameters = refl

order-body : call "POST" "/_matrix/federation/v1/get_missing_events/r" [] ∷ call "PUT" "/_matrix/federation/v1/send/%FF" [] ∷ call "PUT" "/_matrix/federation/v1/send/t1" [] ∷ [] ≡ Err (Invalid invalid.RoomId) ∷ Err (Invalid invalid.Path) ∷ Err NotJson ∷ []
unfolding calls_on_examples
order-body = refl

-- a body over the limit, before all else
body-too_large : (r : Request) → nat_lt largest_body (length r.body) ≡ true → read r ≡ Err TooLarge
unfolding call_under
body-too_large r e = rw e refl

-- ---- bytes that are no text: the byte FF in a target, and in a header beside an origin

abbrev with_ff : String → String → Option (List ℕ) → Read Call
with_ff method target authorization =
    read (record { method = codes method; target = codes target ++ (255 ∷ []); authorization = authorization; body = [] })

target-no_text : with_ff "GET" "/_matrix/federation/v1/event/$1" from_b ∷ with_ff "GET" "/_matrix/federation/v1/event/$1?x=" from_b ∷ [] ≡ replicate 2 (Err UnknownPath)
unfolding calls_on_examples
target-no_text = refl

header-no_text : by (Some (codes "X-Matrix origin=b.example,sig=" ++ (255 ∷ []))) "GET" "/_matrix/federation/v1/event/$1" ≡ Err NoOrigin
unfolding calls_on_examples
header-no_text = refl

-- ---- queries

event-read : map get ("/_matrix/federation/v1/event/%241?x=y" ∷ "/_matrix/federation/v1/event/$a%2Fb%3F?c?d" ∷ "/_matrix/federation/v1/event/$%4" ∷ []) ≡ map (λ s. Ok (asks b_server (ask.Event (codes s)))) ("$1" ∷ "$a/b?" ∷ "$%4" ∷ [])
unfolding calls_on_examples
event-read = refl

state-read : map get ("/_matrix/federation/v1/state/!r:a?event_id=%241&event_id=x" ∷ "/_matrix/federation/v1/state_ids/!r:a?event_id=$1" ∷ "/_matrix/federation/v1/event_auth/!r:a/$1" ∷ []) ≡ Ok (asks b_server (ask.State (codes "!r:a") (codes "$1"))) ∷ Ok (asks b_server (ask.StateIds (codes "!r:a") (codes "$1"))) ∷ Ok (asks b_server (ask.EventAuth (codes "!r:a") (codes "$1"))) ∷ []
unfolding calls_on_examples
state-read = refl

backfill-read : get "/_matrix/federation/v1/backfill/!r:a?v=$1&limit=00250&v=$2" ≡ Ok (asks b_server (ask.Backfill (codes "!r:a") (codes "$1" ∷ codes "$2" ∷ []) 100))
unfolding calls_on_examples
backfill-read = refl

missing-read : call "POST" "/_matrix/federation/v1/get_missing_events/!r:a" (codes "{\"latest_events\":[\"$2\"],\"min_depth\":7}") ≡ Ok (asks b_server (ask.Missing (codes "!r:a") [] (codes "$2" ∷ []) 10 7))
unfolding calls_on_examples
missing-read = refl

make_join-read : map get ("/_matrix/federation/v1/make_join/!r:a/@u:b?ver=5&ver=6" ∷ "/_matrix/federation/v1/make_join/!r:a/@u:b" ∷ []) ≡ Ok (asks b_server (ask.MakeJoin (codes "!r:a") (codes "@u:b") (codes "5" ∷ codes "6" ∷ []))) ∷ Ok (asks b_server (ask.MakeJoin (codes "!r:a") (codes "@u:b") [])) ∷ []
unfolding calls_on_examples
make_join-read = refl

-- ---- events, one of which is malformed

-- a join of a user of b.example, with this state key
abbrev join : String → List ℕ
join key =
    codes "{\"auth_events\":[],\"content\":{\"membership\":\"join\"},\"depth\":1,\"hashes\":{\"sha256\":\"x\"},\"origin_server_ts\":1,\"prev_events\":[],\"room_id\":\"!r:a\",\"sender\":\"@u:b.example\",\"signatures\":{},\"state_key\":\""
    ++ (codes key ++ codes "\",\"type\":\"m.room.member\"}")

-- a call on the value that this text is
abbrev on_value : List ℕ → (Data → Call) → Read Call
on_value text f = on_ok (body_value text) (λ d. Ok (f d))

abbrev put_join : String → String → Read Call
put_join target key = call "PUT" target (join key)

join-read : put_join "/_matrix/federation/v2/send_join/!r:a/$j" "@u:b.example" ≡ on_value (join "@u:b.example") (λ d. joins b_server (as_j d))
unfolding calls_on_examples
join-read = refl

join-faults : put_join "/_matrix/federation/v2/send_join/!s:a/$k" "" ∷ put_join "/_matrix/federation/v2/send_join/!r:a/$k" "" ∷ put_join "/_matrix/federation/v2/send_join/!r:a/$j" "" ∷ call "PUT" "/_matrix/federation/v2/send_join/!s:a/$k" (codes "{}") ∷ call "PUT" "/_matrix/federation/v2/send_join/!s:a/$k" [] ∷ [] ≡ Err (Invalid invalid.RoomId) ∷ Err (Invalid invalid.EventId) ∷ Err (Invalid invalid.Event) ∷ Err WrongForm ∷ Err NotJson ∷ []
unfolding calls_on_examples
join-faults = refl

send-read : call "PUT" "/_matrix/federation/v1/send/t%201" (codes "{\"pdus\":[{}," ++ (join "" ++ codes ",1]}")) ≡ on_value (join "") (λ d. sends b_server (codes "t 1") (as_j d ∷ []))
unfolding calls_on_examples
send-read = refl
