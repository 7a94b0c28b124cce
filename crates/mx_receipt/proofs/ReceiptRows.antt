-- Worked examples of the receipt of events: verdicts, states before and after events, forward extremities and current states.
use Rattle.std.specs.Prelude.{◌≡◌, refl, ℕ, List, [], ◌∷◌, ◌++◌, codes, map, fold, Some, None}
use Prim.Native.String.{String}
use Rattle.mx_redact.specs.Fields.{Event}
use Rattle.mx_auth.proofs.RoomBase.{event, keyed, fields, no_fields, membership, users, e1, e2, e3, e4, e5, e6}
use Rattle.mx_auth.specs.declared.refusals.Rule.TheVariants.{JoinNotAllowed, SenderNotJoined, SenderLevelTooLow, OldUserNotBelowSender, NewUserAboveSender}
use Rattle.mx_pdu.specs.StateKeys.{Key}
use Rattle.mx_graph.specs.StateMap.{State, entry}
use Rattle.mx_receipt.specs.Receipt.{Kept, rows_of, begun, received, verdict, state_before, state_after, forward_extremities, current_state, offer_error}
use Rattle.mx_receipt.specs.declared.verdicts.Verdict.{Verdict}
use Rattle.mx_receipt.specs.declared.verdicts.Verdict.TheVariants.{Accepted, SoftFailed, Rejected}
use Rattle.mx_receipt.specs.declared.refusals.NotReceived.TheVariants.{Known, SecondCreate, MissingEvents}
use Rattle.mx_receipt.proofs.ReceiptOnExamples.{receipt_on_examples}

-- an event with its id
abbrev Arrival : Type 0
Arrival = List ℕ × Event

abbrev arrival : String → Event → Arrival
arrival id e = (codes id, e)

abbrev accepted : Arrival → Kept
accepted a = record { id = a.0; event = a.1; verdict = Accepted }

-- the record after more events
abbrev received_all : List Kept → List Arrival → List Kept
received_all kept arrivals = fold received kept arrivals

abbrev verdicts : List Kept → List Verdict
verdicts kept = map (λ k. k.verdict) kept

abbrev topic_key : Key
topic_key = (codes "m.room.topic", [])

abbrev power_key : Key
power_key = (codes "m.room.power_levels", [])

-- ---- events: a topic, a message, and power levels by the levels of B and C

abbrev topic : ℕ → String → List (List ℕ) → List (List ℕ) → Event
topic n sender prev auth = event n "m.room.topic" (keyed "") sender no_fields prev auth

abbrev message : ℕ → String → List (List ℕ) → List (List ℕ) → Event
message n sender prev auth = event n "m.room.message" [] sender no_fields prev auth

abbrev power_levels : ℕ → String → ℕ → ℕ → List (List ℕ) → List (List ℕ) → Event
power_levels n sender b c prev auth = event n "m.room.power_levels" (keyed "") sender (fields ((codes "users", users b c) ∷ [])) prev auth

-- ---- the room after its first six events

abbrev later : List Arrival
later = arrival "$2" e2 ∷ arrival "$3" e3 ∷ arrival "$4" e4 ∷ arrival "$5" e5 ∷ arrival "$6" e6 ∷ []

abbrev base : List Kept
base = map accepted (arrival "$1" e1 ∷ later)

-- each is accepted, by those before it
base-accepted : received_all (begun (codes "$1") e1) later ≡ base
unfolding receipt_on_examples
base-accepted = refl

-- ---- a join before the join rules

join-too_early : verdict (map accepted (arrival "$1" e1 ∷ arrival "$2" e2 ∷ []))
    (event 3 "m.room.member" (keyed "@b:b.example") "@b:b.example" (membership "join") (codes "$1" ∷ []) (codes "$1" ∷ [])) ≡ Rejected JoinNotAllowed
unfolding receipt_on_examples
join-too_early = refl

-- ---- power levels by B: it lowers an equal, lowers itself, raises itself

abbrev power_levels_by_B : ℕ → ℕ → Event
power_levels_by_B b c = power_levels 7 "@b:b.example" b c (codes "$6" ∷ []) (codes "$1" ∷ codes "$3" ∷ codes "$5" ∷ [])

lowers-equal : verdict base (power_levels_by_B 50 40) ≡ Rejected OldUserNotBelowSender
unfolding receipt_on_examples
lowers-equal = refl

lowers-itself : verdict base (power_levels_by_B 40 50) ≡ Accepted
unfolding receipt_on_examples
lowers-itself = refl

raises-itself : verdict base (power_levels_by_B 51 50) ≡ Rejected NewUserAboveSender
unfolding receipt_on_examples
raises-itself = refl

-- ---- a race: A gives B level 0 while B sets the topic, after a topic by A

abbrev topic_by_A : Arrival
topic_by_A = arrival "$7" (topic 7 "@a:a.example" (codes "$6" ∷ []) (codes "$1" ∷ codes "$2" ∷ codes "$3" ∷ []))

abbrev demotion : Arrival
demotion = arrival "$8" (power_levels 8 "@a:a.example" 0 50 (codes "$7" ∷ []) (codes "$1" ∷ codes "$2" ∷ codes "$3" ∷ []))

abbrev topic_by_B : Arrival
topic_by_B = arrival "$9" (topic 9 "@b:b.example" (codes "$7" ∷ []) (codes "$1" ∷ codes "$3" ∷ codes "$5" ∷ []))

abbrev topic_first : List Kept
topic_first = received_all base (topic_by_A ∷ topic_by_B ∷ demotion ∷ [])

abbrev demotion_first : List Kept
demotion_first = received_all base (topic_by_A ∷ demotion ∷ topic_by_B ∷ [])

topic_first-accepted : topic_first ≡ base ++ map accepted (topic_by_A ∷ topic_by_B ∷ demotion ∷ [])
unfolding receipt_on_examples
topic_first-accepted = refl

topic_first-extremities : forward_extremities topic_first ≡ 7 ∷ 8 ∷ []
unfolding receipt_on_examples
topic_first-extremities = refl

topic_first-topic : entry (current_state topic_first) topic_key ≡ Some 6
unfolding receipt_on_examples
topic_first-topic = refl

topic_first-power_levels : entry (current_state topic_first) power_key ≡ Some 8
unfolding receipt_on_examples
topic_first-power_levels = refl

demotion_first-verdicts : verdicts demotion_first
    ≡ Accepted ∷ Accepted ∷ Accepted ∷ Accepted ∷ Accepted ∷ Accepted ∷ Accepted ∷ Accepted ∷ SoftFailed SenderLevelTooLow ∷ []
unfolding receipt_on_examples
demotion_first-verdicts = refl

demotion_first-extremities : forward_extremities demotion_first ≡ 7 ∷ []
unfolding receipt_on_examples
demotion_first-extremities = refl

demotion_first-topic : entry (current_state demotion_first) topic_key ≡ Some 6
unfolding receipt_on_examples
demotion_first-topic = refl

demotion_first-power_levels : entry (current_state demotion_first) power_key ≡ Some 7
unfolding receipt_on_examples
demotion_first-power_levels = refl

-- the states after the demotion and after the topic of B
abbrev with_power_levels : ℕ → ℕ → State
with_power_levels power topic = ((codes "m.room.create", []), 0) ∷ ((codes "m.room.join_rules", []), 3)
    ∷ ((codes "m.room.member", codes "@a:a.example"), 1) ∷ ((codes "m.room.member", codes "@b:b.example"), 4)
    ∷ ((codes "m.room.member", codes "@c:c.example"), 5) ∷ ((codes "m.room.power_levels", []), power) ∷ ((codes "m.room.topic", []), topic) ∷ []

topic_first-after_demotion : state_after topic_first 8 ≡ with_power_levels 8 6
unfolding receipt_on_examples
topic_first-after_demotion = refl

topic_first-after_topic : state_after topic_first 7 ≡ with_power_levels 2 7
unfolding receipt_on_examples
topic_first-after_topic = refl

-- ---- soft failure: A bans C while C sets the topic, and a message of A follows both

abbrev ban : Arrival
ban = arrival "$10" (event 10 "m.room.member" (keyed "@c:c.example") "@a:a.example" (membership "ban") (codes "$7" ∷ []) (codes "$1" ∷ codes "$2" ∷ codes "$3" ∷ codes "$6" ∷ []))

abbrev topic_by_C : Arrival
topic_by_C = arrival "$11" (topic 11 "@c:c.example" (codes "$7" ∷ []) (codes "$1" ∷ codes "$3" ∷ codes "$6" ∷ []))

abbrev message_on_both : Arrival
message_on_both = arrival "$12" (message 12 "@a:a.example" (codes "$10" ∷ codes "$11" ∷ []) (codes "$1" ∷ codes "$2" ∷ codes "$3" ∷ []))

abbrev ban_first : List Kept
ban_first = received_all base (topic_by_A ∷ ban ∷ topic_by_C ∷ [])

abbrev then_message : List Kept
then_message = received_all ban_first (message_on_both ∷ [])

then_message-verdicts : verdicts then_message
    ≡ Accepted ∷ Accepted ∷ Accepted ∷ Accepted ∷ Accepted ∷ Accepted ∷ Accepted ∷ Accepted ∷ SoftFailed SenderNotJoined ∷ Accepted ∷ []
unfolding receipt_on_examples
then_message-verdicts = refl

ban_first-extremities : forward_extremities ban_first ≡ 7 ∷ []
unfolding receipt_on_examples
ban_first-extremities = refl

-- the topic that failed softly is in the state after it
ban_first-after_topic : entry (state_after ban_first 8) topic_key ≡ Some 8
unfolding receipt_on_examples
ban_first-after_topic = refl

then_message-topic : entry (state_before then_message 9) topic_key ≡ Some 6
unfolding receipt_on_examples
then_message-topic = refl

then_message-member : entry (state_before then_message 9) (codes "m.room.member", codes "@c:c.example") ≡ Some 7
unfolding receipt_on_examples
then_message-member = refl

then_message-extremities : forward_extremities then_message ≡ 9 ∷ []
unfolding receipt_on_examples
then_message-extremities = refl

-- ---- a rejected parent: a topic by D, who is no member, and a message that follows it

abbrev topic_by_D : Arrival
topic_by_D = arrival "$7" (topic 7 "@d:d.example" (codes "$6" ∷ []) (codes "$1" ∷ codes "$3" ∷ []))

abbrev message_on_rejected : Arrival
message_on_rejected = arrival "$8" (message 8 "@a:a.example" (codes "$7" ∷ []) (codes "$1" ∷ codes "$2" ∷ codes "$3" ∷ []))

abbrev after_rejected : List Kept
after_rejected = received_all base (topic_by_D ∷ [])

abbrev on_rejected : List Kept
on_rejected = received_all after_rejected (message_on_rejected ∷ [])

on_rejected-verdicts : verdicts on_rejected ≡ Accepted ∷ Accepted ∷ Accepted ∷ Accepted ∷ Accepted ∷ Accepted ∷ Rejected SenderNotJoined ∷ Accepted ∷ []
unfolding receipt_on_examples
on_rejected-verdicts = refl

after_rejected-extremities : forward_extremities after_rejected ≡ 5 ∷ []
unfolding receipt_on_examples
after_rejected-extremities = refl

on_rejected-topic : entry (state_before on_rejected 7) topic_key ≡ None
unfolding receipt_on_examples
on_rejected-topic = refl

on_rejected-extremities : forward_extremities on_rejected ≡ 7 ∷ []
unfolding receipt_on_examples
on_rejected-extremities = refl

-- ---- a topic that resolution takes away

abbrev topic_of_demoted : Arrival
topic_of_demoted = arrival "$9" (topic 9 "@b:b.example" (codes "$6" ∷ []) (codes "$1" ∷ codes "$3" ∷ codes "$5" ∷ []))

abbrev early_demotion : Arrival
early_demotion = arrival "$8" (power_levels 8 "@a:a.example" 0 50 (codes "$6" ∷ []) (codes "$1" ∷ codes "$2" ∷ codes "$3" ∷ []))

abbrev message_after_race : Arrival
message_after_race = arrival "$10" (message 10 "@a:a.example" (codes "$8" ∷ codes "$9" ∷ []) (codes "$1" ∷ codes "$2" ∷ codes "$8" ∷ []))

abbrev without_topic : List Kept
without_topic = received_all base (topic_of_demoted ∷ early_demotion ∷ message_after_race ∷ [])

without_topic-accepted : without_topic ≡ base ++ map accepted (topic_of_demoted ∷ early_demotion ∷ message_after_race ∷ [])
unfolding receipt_on_examples
without_topic-accepted = refl

without_topic-before : entry (state_before without_topic 8) topic_key ≡ None
unfolding receipt_on_examples
without_topic-before = refl

without_topic-after : entry (state_after without_topic 6) topic_key ≡ Some 6
unfolding receipt_on_examples
without_topic-after = refl

-- ---- events that a room does not take: a known one, a second create event, and one that follows an event that is missing

known : offer_error (rows_of base) (codes "$1") e1 ≡ Some Known
unfolding receipt_on_examples
known = refl

second-create : offer_error (rows_of base) (codes "$7") e1 ≡ Some SecondCreate
unfolding receipt_on_examples
second-create = refl

missing-prev_event : offer_error (rows_of base) (codes "$9") topic_by_B.1 ≡ Some MissingEvents
unfolding receipt_on_examples
missing-prev_event = refl

taken : offer_error (rows_of base) (codes "$7") topic_by_A.1 ≡ None
unfolding receipt_on_examples
taken = refl
