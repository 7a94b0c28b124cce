-- Worked examples of queries, and of an access control list in a room.
use Rattle.std.specs.Prelude.{◌≡◌, refl, ℕ, List, [], ◌∷◌, codes, map, Ok, Err, true}
use Rattle.std.specs.Fmt.{digits}
use Rattle.serde_json.specs.Data.{Data, array, object, put, string}
use Rattle.mx_canon.specs.Canonical.{canonical_text}
use Rattle.mx_redact.specs.Fields.{Event, members_of}
use Rattle.mx_auth.proofs.RoomBase.{event, fields, keyed, membership, no_fields, texts}
use Rattle.mx_auth.specs.declared.refusals.Rule.TheVariants.{JoinOfBanned}
use Rattle.mx_receipt.specs.Receipt.{Kept, kept_at}
use Rattle.mx_receipt.specs.declared.verdicts.Verdict.TheVariants.{Accepted}
use Rattle.mx_access.proofs.ExampleRoom.{Arrival, arrival, base, received_all, state_event, message}
use Rattle.mx_room.specs.Offer.{Offered, offer_outcome}
use Rattle.mx_room.specs.Queries.{Answered, query_answer}
use Rattle.mx_room.specs.declared.outcomes.Outcome.TheVariants.{Kept as now_kept, Refused}
use Rattle.mx_room.specs.declared.outcomes.Refusal.TheVariants.{AccessList as denied_offer}
use Rattle.mx_auth.specs.declared.versions.RoomVersion.TheVariants.{V6}
use Rattle.mx_room.specs.declared.queries.Denied.TheVariants.{AccessList, NotInRoom, NotFound, OtherServer, WrongVersion, Rule}
use Rattle.mx_room.specs.declared.queries.Query.TheVariants as ask
use Rattle.mx_room.specs.declared.queries.QueryReply.TheVariants as gives
use Rattle.mx_room.proofs.RoomOnExamples.{room_on_examples}

abbrev r : List ℕ
r = codes "!r:a.example"

abbrev b_server : List ℕ
b_server = codes "b.example"

-- the events at these places, as they are kept
abbrev those : List ℕ → List Event
those ps = map (λ p. (kept_at base p).event) ps

-- ---- state and auth chains

state_ids-5 : query_answer base b_server 0 (ask.StateIds r (codes "$5"))
    ≡ Ok (gives.StateIds (codes "$1" ∷ codes "$4" ∷ codes "$2" ∷ codes "$3" ∷ []) (codes "$1" ∷ codes "$2" ∷ codes "$3" ∷ []))
unfolding room_on_examples
state_ids-5 = refl

event_auth-5 : query_answer base b_server 0 (ask.EventAuth r (codes "$5")) ≡ Ok (gives.EventAuth (those (0 ∷ 1 ∷ 2 ∷ 3 ∷ [])))
unfolding room_on_examples
event_auth-5 = refl

state-outside : query_answer base (codes "e.example") 0 (ask.State r (codes "$5")) ≡ Err NotInRoom
unfolding room_on_examples
state-outside = refl

state-not_held : query_answer base b_server 0 (ask.State r (codes "$7")) ≡ Err NotFound
unfolding room_on_examples
state-not_held = refl

-- ---- backfill and missing events

backfill-two : query_answer base b_server 0 (ask.Backfill r (codes "$6" ∷ []) 2) ≡ Ok (gives.Events (those (5 ∷ 4 ∷ [])))
unfolding room_on_examples
backfill-two = refl

backfill-not_held : query_answer base b_server 0 (ask.Backfill r (codes "$7" ∷ []) 2) ≡ Err NotFound
unfolding room_on_examples
backfill-not_held = refl

missing-deep : query_answer base b_server 0 (ask.Missing r (codes "$2" ∷ []) (codes "$6" ∷ []) 10 4) ≡ Ok (gives.Events (those (3 ∷ 4 ∷ [])))
unfolding room_on_examples
missing-deep = refl

missing-one : query_answer base b_server 0 (ask.Missing r (codes "$2" ∷ []) (codes "$6" ∷ []) 1 0) ≡ Ok (gives.Events (those (4 ∷ [])))
unfolding room_on_examples
missing-one = refl

-- ---- a rejected event: `$7` by D, who is no member

abbrev with_rejected : List Kept
with_rejected = received_all base (arrival "$7" (event 7 "m.room.topic" (keyed "") "@d:d.example" no_fields (codes "$6" ∷ []) (codes "$1" ∷ codes "$3" ∷ [])) ∷ [])

rejected-state : query_answer with_rejected b_server 0 (ask.State r (codes "$7")) ≡ Err NotFound
unfolding room_on_examples
rejected-state = refl

rejected-backfill : query_answer with_rejected b_server 0 (ask.Backfill r (codes "$7" ∷ []) 1) ≡ Ok (gives.Events (those (5 ∷ [])))
unfolding room_on_examples
rejected-backfill = refl

-- ---- an access control list

abbrev rules : Data
rules = fields ((codes "allow", array (texts (codes "*" ∷ []))) ∷ (codes "deny", array (texts (codes "*.evil.example" ∷ []))) ∷ [])

abbrev with_acl : List Kept
with_acl = received_all base (state_event "$7" 7 "m.room.server_acl" "" rules (codes "$6") ∷ [])

abbrev offer : Arrival → Offered
offer a = record { pdu = a.1; id = a.0; signed = true }

abbrev by_B : Arrival
by_B = message "$8" 8 "@b:b.example" (codes "$7") (codes "$1" ∷ codes "$3" ∷ codes "$5" ∷ [])

denied-offer : offer_outcome with_acl (codes "A.EVIL.example:8448") (offer by_B) ≡ Refused denied_offer
unfolding room_on_examples
denied-offer = refl

allowed-offer : offer_outcome with_acl b_server (offer by_B) ≡ now_kept Accepted
unfolding room_on_examples
allowed-offer = refl

-- it guards state and the like, and not the query for one event
denied-query : query_answer with_acl (codes "x.evil.example") 0 (ask.StateIds r (codes "$5")) ≡ Err AccessList
unfolding room_on_examples
denied-query = refl

undenied-query : query_answer with_acl (codes "x.evil.example") 0 (ask.Event (codes "$5")) ≡ Err NotFound
unfolding room_on_examples
undenied-query = refl

-- ---- joins

abbrev d : List ℕ
d = codes "@d:d.example"

abbrev d_server : List ℕ
d_server = codes "d.example"

-- what a server gives of a template
template_text : Answered → List ℕ
template_text (Ok (gives.Template v e)) = canonical_text (object (put (codes "origin") (string (codes "hub.example")) (members_of e)))
template_text other = []

make_join-d : template_text (query_answer base d_server 1000 (ask.MakeJoin r d (codes "6" ∷ [])))
    ≡ codes "{\"auth_events\":[\"$1\",\"$3\",\"$4\"],\"content\":{\"membership\":\"join\"},\"depth\":7,\"origin\":\"hub.example\",\"origin_server_ts\":1000,\"prev_events\":[\"$6\"],\"room_id\":\"!r:a.example\",\"sender\":\"@d:d.example\",\"state_key\":\"@d:d.example\",\"type\":\"m.room.member\"}"
unfolding canonical_text digits room_on_examples template_text
make_join-d = refl

make_join-version : query_answer base d_server 1000 (ask.MakeJoin r d []) ≡ Err (WrongVersion V6)
unfolding room_on_examples
make_join-version = refl

make_join-server : query_answer base b_server 1000 (ask.MakeJoin r d (codes "6" ∷ [])) ≡ Err OtherServer
unfolding room_on_examples
make_join-server = refl

-- C is banned
abbrev banned : List Kept
banned =
    received_all base
    (arrival "$7" (event 7 "m.room.member" (keyed "@c:c.example") "@a:a.example" (membership "ban") (codes "$6" ∷ []) (codes "$1" ∷ codes "$2" ∷ codes "$3" ∷ codes "$6" ∷ [])) ∷ [])

make_join-banned : query_answer banned (codes "c.example") 1000 (ask.MakeJoin r (codes "@c:c.example") (codes "6" ∷ [])) ≡ Err (Rule JoinOfBanned)
unfolding room_on_examples
make_join-banned = refl
