-- Worked rows: the replies to queries, each computed.
use Rattle.std.specs.Prelude.{◌≡◌, refl, ⊤, ℕ, List, [], ◌∷◌, codes, map, Result, Ok, Err}
use Rattle.std.specs.Fmt.{digits}
use Prim.Native.String.{String}
use Rattle.serde_json.specs.Data.{object, string, member, no_members}
use Rattle.mx_redact.specs.Fields.{Event}
use Rattle.mx_auth.specs.declared.refusals.Rule.TheVariants as rule
use Rattle.mx_auth.specs.declared.versions.RoomVersion.TheVariants.{V6}
use Rattle.mx_room.specs.declared.queries.Query.{Query}
use Rattle.mx_room.specs.declared.queries.Query.TheVariants as ask
use Rattle.mx_room.specs.declared.queries.QueryReply.{QueryReply}
use Rattle.mx_room.specs.declared.queries.QueryReply.TheVariants as gives
use Rattle.mx_room.specs.declared.queries.Denied.{Denied}
use Rattle.mx_room.specs.declared.queries.Denied.TheVariants as denied
use Rattle.mx_requests.specs.ReplyBodies.{Response, query_reply, success}
use Rattle.mx_requests.proofs.OnExamples.{wire_on_examples}

unfoldable pub replies_on_examples : ⊤
unfolding digits wire_on_examples
replies_on_examples = tt

-- of hub.example, at 1000 milliseconds
abbrev reply : Query → Result QueryReply Denied → Response
reply q answered = query_reply (codes "hub.example") 1000 q answered

abbrev event : String → Event
event kind = object (member (codes "type") (string (codes kind)) no_members)

abbrev room : List ℕ
room = codes "!r:a"

abbrev id : List ℕ
id = codes "$1"

-- the deepest first, and the deepest last
abbrev two : List Event
two = event "n" ∷ event "m" ∷ []

given-state : reply (ask.State room id) (Ok (gives.State (event "m" ∷ []) two)) ∷ reply (ask.StateIds room id) (Ok (gives.StateIds (id ∷ []) [])) ∷ reply (ask.EventAuth room id) (Ok (gives.EventAuth [])) ∷ []
    ≡ map (λ s. success (codes s)) ("{\"auth_chain\":[{\"type\":\"n\"},{\"type\":\"m\"}],\"pdus\":[{\"type\":\"m\"}]}" ∷ "{\"auth_chain_ids\":[],\"pdu_ids\":[\"$1\"]}" ∷ "{\"auth_chain\":[]}" ∷ [])
unfolding replies_on_examples
given-state = refl

given-sent : reply (ask.Event id) (Ok (gives.Event (event "m"))) ∷ reply (ask.Backfill room (id ∷ []) 2) (Ok (gives.Events two)) ∷ reply (ask.Missing room [] (id ∷ []) 10 0) (Ok (gives.Events two)) ∷ []
    ≡ map (λ s. success (codes s)) ("{\"origin\":\"hub.example\",\"origin_server_ts\":1000,\"pdus\":[{\"type\":\"m\"}]}" ∷ "{\"origin\":\"hub.example\",\"origin_server_ts\":1000,\"pdus\":[{\"type\":\"n\"},{\"type\":\"m\"}]}" ∷ "{\"events\":[{\"type\":\"n\"},{\"type\":\"m\"}]}" ∷ [])
unfolding replies_on_examples
given-sent = refl

-- the name of this server among the other members
given-template : reply (ask.MakeJoin room (codes "@u:b") []) (Ok (gives.Template V6 (event "m"))) ≡ success (codes "{\"event\":{\"origin\":\"hub.example\",\"type\":\"m\"},\"room_version\":\"6\"}")
unfolding replies_on_examples
given-template = refl

abbrev refused : ℕ → String → Response
refused status body = record { status = status; body = codes body }

denied-each : map (λ why. reply (ask.Event id) (Err why)) (denied.AccessList ∷ denied.NotInRoom ∷ denied.NotFound ∷ denied.OtherServer ∷ denied.WrongVersion V6 ∷ denied.Rule rule.StateWithoutCreate ∷ [])
    ≡ refused 403 "{\"errcode\":\"M_FORBIDDEN\",\"error\":\"server acl\"}" ∷ refused 403 "{\"errcode\":\"M_FORBIDDEN\",\"error\":\"not in room\"}" ∷ refused 404 "{\"errcode\":\"M_NOT_FOUND\",\"error\":\"not found\"}" ∷ refused 403 "{\"errcode\":\"M_FORBIDDEN\",\"error\":\"user of another server\"}" ∷ refused 400 "{\"errcode\":\"M_INCOMPATIBLE_ROOM_VERSION\",\"error\":\"room version\",\"room_version\":\"6\"}" ∷ refused 403 "{\"errcode\":\"M_FORBIDDEN\",\"error\":\"rule A0\"}" ∷ []
unfolding replies_on_examples
denied-each = refl
