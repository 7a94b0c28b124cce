-- Worked examples of a room: which events make one, what becomes of offered events, and what is shown. The events have
-- no content hash, which is a wrong one.
use Rattle.std.proofs.Common.{ap}
use Rattle.std.specs.Prelude.{◌≡◌, refl, not, true, false, List, ℕ, [], ◌∷◌, codes, option_map, Some, Ok, Err}
use Prim.Native.String.{String}
use Rattle.serde_json.specs.Data.{Data}
use Rattle.mx_ident.specs.Identifier.{refuse_if}
use Rattle.mx_redact.specs.Fields.{Event}
use Rattle.mx_redact.specs.Hashes.{hash_holds}
use Rattle.mx_auth.specs.Rules.{rules}
use Rattle.mx_auth.specs.declared.refusals.Rule.TheVariants.{CreateHasPrevEvents, CreateVersionUnknown, SenderNotJoined}
use Rattle.mx_auth.proofs.RoomBase.{text, fields, no_fields, keyed, event, e1, e2, e3, e4, e5, e6}
use Rattle.mx_auth.proofs.RulesOnExamples.{rules_on_examples}
use Rattle.mx_orders.specs.StateMap.{view}
use Rattle.mx_receipt.specs.Receipt.{Kept, created_version, received}
use Rattle.mx_receipt.specs.declared.verdicts.Verdict.TheVariants.{Accepted, Rejected}
use Rattle.mx_room.specs.Queries.{query_answer}
use Rattle.mx_room.specs.Hosting.{host_error}
use Rattle.mx_room.specs.Offer.{Offered, as_kept, allowed_outcome}
use Rattle.mx_room.specs.declared.hosting.NotARoom.TheVariants.{NotACreateEvent, CitesAuthEvents, Unsigned, BadContentHash, BreaksRule}
use Rattle.mx_room.specs.declared.outcomes.Outcome.TheVariants.{Kept as now_kept, Known, Refused}
use Rattle.mx_room.specs.declared.outcomes.Refusal.TheVariants.{SecondCreate, Signature, MissingEvents}
use Rattle.mx_room.specs.declared.queries.Denied.TheVariants.{NotFound}
use Rattle.mx_room.specs.declared.queries.Query.TheVariants.{Event as ask_event}
use Rattle.mx_room.specs.declared.queries.QueryReply.TheVariants.{Event as gives_event}
use Rattle.mx_room.proofs.RoomOnExamples.{room_on_examples}

abbrev offer : String → Event → Offered
offer id e = record { pdu = e; id = codes id; signed = true }

abbrev unsigned : String → Event → Offered
unsigned id e = record { pdu = e; id = codes id; signed = false }

-- ---- which events make a room

abbrev create : List (List ℕ × Data) → List (List ℕ) → List (List ℕ) → Event
create content prev auth = event 1 "m.room.create" (keyed "") "@a:a.example" (fields content) prev auth

host-no_create : host_error (unsigned "$2" e2) ≡ Some NotACreateEvent
unfolding room_on_examples
host-no_create = refl

host-auth_events : host_error (unsigned "$1" (create [] [] (codes "$2" ∷ []))) ≡ Some CitesAuthEvents
unfolding room_on_examples
host-auth_events = refl

host-unsigned : host_error (unsigned "$1" e1) ≡ Some Unsigned
unfolding room_on_examples
host-unsigned = refl

host-bad_hash : host_error (offer "$1" e1) ≡ Some BadContentHash
unfolding room_on_examples
host-bad_hash = refl

-- where the content hash is right, the rules are asked
host-prev_events : (right : hash_holds (create [] (codes "$2" ∷ []) []) ≡ true) → host_error (offer "$1" (create [] (codes "$2" ∷ []) [])) ≡ Some (BreaksRule CreateHasPrevEvents)
unfolding rules_on_examples host_error
host-prev_events right = ap (λ b. refuse_if (not b) BadContentHash (option_map BreaksRule (rules (created_version (create [] (codes "$2" ∷ []) [])) (create [] (codes "$2" ∷ []) []) (view [] [])))) right

host-no_version : (right : hash_holds (create [] [] []) ≡ true) → host_error (offer "$1" (create [] [] [])) ≡ Some (BreaksRule CreateVersionUnknown)
unfolding rules_on_examples host_error
host-no_version right = ap (λ b. refuse_if (not b) BadContentHash (option_map BreaksRule (rules (created_version (create [] [] [])) (create [] [] []) (view [] [])))) right

-- ---- what becomes of an offered event, after the first six of a room

abbrev accepted : String → Event → Kept
accepted id e = record { id = codes id; event = e; verdict = Accepted }

abbrev base : List Kept
base = accepted "$1" e1 ∷ accepted "$2" e2 ∷ accepted "$3" e3 ∷ accepted "$4" e4 ∷ accepted "$5" e5 ∷ accepted "$6" e6 ∷ []

abbrev message : Data → List (List ℕ) → Event
message content prev = event 7 "m.room.message" [] "@a:a.example" content prev (codes "$1" ∷ codes "$2" ∷ codes "$3" ∷ [])

abbrev altered : Event
altered = message (fields ((codes "body", text "x") ∷ [])) (codes "$6" ∷ [])

-- a known id is told first, whatever comes with it
offered-known : allowed_outcome base (unsigned "$6" e1) ≡ Known Accepted
unfolding room_on_examples
offered-known = refl

offered-second_create : allowed_outcome base (unsigned "$7" e1) ≡ Refused SecondCreate
unfolding room_on_examples
offered-second_create = refl

offered-unsigned : allowed_outcome base (unsigned "$7" (message no_fields (codes "$9" ∷ []))) ≡ Refused Signature
unfolding room_on_examples
offered-unsigned = refl

offered-missing : allowed_outcome base (offer "$7" (message no_fields (codes "$9" ∷ []))) ≡ Refused MissingEvents
unfolding room_on_examples
offered-missing = refl

offered-altered : allowed_outcome base (offer "$7" altered) ≡ now_kept Accepted
unfolding room_on_examples
offered-altered = refl

-- its altered content is not kept
altered-as_kept : as_kept (offer "$7" altered) ≡ message no_fields (codes "$6" ∷ [])
unfolding room_on_examples
altered-as_kept = refl

-- ---- what is shown

abbrev a_server : List ℕ
a_server = codes "a.example"

abbrev topic_by_D : Event
topic_by_D = event 7 "m.room.topic" (keyed "") "@d:d.example" no_fields (codes "$6" ∷ []) (codes "$1" ∷ codes "$3" ∷ [])

stranger-rejected : allowed_outcome base (offer "$7" topic_by_D) ≡ now_kept (Rejected SenderNotJoined)
unfolding room_on_examples
stranger-rejected = refl

shown-create : query_answer base a_server 0 (ask_event (codes "$1")) ≡ Ok (gives_event e1)
unfolding room_on_examples
shown-create = refl

shown-unknown : query_answer base a_server 0 (ask_event (codes "$7")) ≡ Err NotFound
unfolding room_on_examples
shown-unknown = refl

-- a rejected event is not shown
shown-rejected : query_answer (received base (codes "$7", topic_by_D)) a_server 0 (ask_event (codes "$7")) ≡ Err NotFound
unfolding room_on_examples
shown-rejected = refl
