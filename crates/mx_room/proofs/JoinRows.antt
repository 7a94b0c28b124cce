-- Worked examples of joins. The events have no content hash, which is a wrong one.
use Rattle.std.specs.Prelude.{◌≡◌, refl, true, ℕ, List, [], ◌∷◌, codes, map, take, Some, None}
use Rattle.mx_redact.specs.Fields.{Event}
use Rattle.mx_auth.specs.declared.refusals.Rule.TheVariants.{SenderNotJoined}
use Rattle.mx_auth.proofs.RoomBase.{event, keyed, no_fields}
use Rattle.mx_receipt.specs.Receipt.{kept_at}
use Rattle.mx_receipt.specs.declared.verdicts.Verdict.TheVariants.{Accepted, Rejected}
use Rattle.mx_access.proofs.ExampleRoom.{Arrival, arrival, base, join}
use Rattle.mx_room.specs.Joins.{join_reply, with_offer}
use Rattle.mx_room.specs.Offer.{Offered}
use Rattle.mx_room.specs.declared.joining.Joined.{Joined}
use Rattle.mx_room.specs.declared.joining.JoinReply.TheVariants as replies
use Rattle.mx_room.specs.declared.outcomes.Outcome.TheVariants.{Kept as now_kept, Known, Refused}
use Rattle.mx_room.specs.declared.outcomes.Refusal.TheVariants.{MissingEvents}
use Rattle.mx_room.proofs.RoomOnExamples.{room_on_examples}

abbrev d_server : List ℕ
d_server = codes "d.example"

-- the events at these places, as they are kept
abbrev those : List ℕ → List Event
those ps = map (λ p. (kept_at base p).event) ps

abbrev offer : Arrival → Offered
offer a = record { pdu = a.1; id = a.0; signed = true }

-- ---- a join after the first six events of the room

abbrev d_join : Offered
d_join = offer (join "$7" 7 "@d:d.example" (codes "$6"))

abbrev d_joined : Joined
d_joined = record { state = those (0 ∷ 3 ∷ 1 ∷ 4 ∷ 5 ∷ 2 ∷ []); auth_chain = those (0 ∷ 1 ∷ 2 ∷ 3 ∷ []); event = d_join.pdu }

send_join-new : join_reply base d_server d_join ≡ replies.Offered (now_kept Accepted) (Some d_joined)
unfolding room_on_examples join_reply
send_join-new = refl

-- the same where it is sent again
send_join-again : join_reply (with_offer base d_server d_join) d_server d_join ≡ replies.Offered (Known Accepted) (Some d_joined)
unfolding room_on_examples join_reply
send_join-again = refl

send_join-other : join_reply base (codes "b.example") d_join ≡ replies.NotOffered
unfolding room_on_examples join_reply
send_join-other = refl

-- ---- what is not let in has no answer

send_join-missing : join_reply base d_server (offer (join "$7" 7 "@d:d.example" (codes "$9"))) ≡ replies.Offered (Refused MissingEvents) None
unfolding room_on_examples join_reply
send_join-missing = refl

send_join-rejected : join_reply base d_server (offer (arrival "$7" (event 7 "m.room.topic" (keyed "") "@d:d.example" no_fields (codes "$6" ∷ []) (codes "$1" ∷ codes "$3" ∷ []))))
    ≡ replies.Offered (now_kept (Rejected SenderNotJoined)) None
unfolding room_on_examples join_reply
send_join-rejected = refl

-- ---- a join right after the join rules, which stand in no other event's auth chain

abbrev rules_join : Offered
rules_join = offer (join "$5" 5 "@d:d.example" (codes "$4"))

send_join-rules : join_reply (take 4 base) d_server rules_join
    ≡ replies.Offered (now_kept Accepted) (Some (record { state = those (0 ∷ 3 ∷ 1 ∷ 2 ∷ []); auth_chain = those (0 ∷ 1 ∷ 2 ∷ 3 ∷ []); event = rules_join.pdu }))
unfolding room_on_examples join_reply
send_join-rules = refl
