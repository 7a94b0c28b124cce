-- Worked rows: the turns of transactions, the replies to steps, and two rooms that stand apart.
use Rattle.std.specs.Prelude.{◌≡◌, refl, ℕ, true, false, List, [], ◌∷◌, codes, bytes_eq, if◌then◌else◌, Some, None, IsTrue}
use Rattle.std.specs.Str.{chars}
use Rattle.std.proofs.Common.{cond, sym}
use Rattle.std.proofs.lemmas.Bool.{false≢true}
use Rattle.std.proofs.lemmas.Slice.Eq.{bytes_eq-Decides}
use Rattle.serde_json.specs.Data.{Data, string, object, member, no_members}
use Rattle.mx_canon.specs.Canonical.{canonical_text}
use Rattle.mx_receipt.specs.Receipt.{Kept}
use Rattle.mx_receipt.specs.declared.verdicts.Verdict.TheVariants.{Accepted}
use Rattle.mx_room.specs.Offer.{Offered}
use Rattle.mx_room.specs.declared.outcomes.Outcome.TheVariants as outcome
use Rattle.mx_room.specs.declared.outcomes.Refusal.TheVariants.{MissingEvents}
use Rattle.mx_room.specs.declared.queries.Query.TheVariants.{Event as ask_event, StateIds as ask_state_ids}
use Rattle.mx_shard.specs.LoneRoom.{Call, to_offer, to_ask, answer}
use Rattle.mx_shard.specs.declared.answers.Answer.TheVariants.{NotHosted}
use Rattle.mx_book.specs.Transactions.{same}
use Rattle.mx_book.specs.declared.transaction_keys.TransactionKey.{TransactionKey}
use Rattle.mx_world.specs.Calls.{Start, opening, turn, is_closed, if_put_to, offers}
use Rattle.mx_world.specs.Replies.{body_of, waiting, ended, status_by, open_reply, next_reply, close_reply}
use Rattle.mx_world.specs.Agree.{holds, hears, StayApart}
use Rattle.mx_world.specs.declared.steps.Step.{Step}
use Rattle.mx_world.specs.declared.steps.Step.TheVariants.{Next, Close, Ask}
use Rattle.mx_world.specs.declared.steps.StepReply.TheVariants.{Replayed, Busy, NotOpen, NoMore, OfEvent, MoreLeft}

abbrev a_server : List ℕ
a_server = codes "a.example"

abbrev t1 : TransactionKey
t1 = record { origin = a_server; txn = codes "t1" }

abbrev t2 : TransactionKey
t2 = record { origin = a_server; txn = codes "t2" }

abbrev r : List ℕ
r = codes "!r:a.example"

abbrev s : List ℕ
s = codes "!s:a.example"

abbrev event_in : List ℕ → Data
event_in room = object (member (codes "room_id") (string room) no_members)

abbrev offered : List ℕ → List ℕ → Offered
offered id room = record { pdu = event_in room; id = id; signed = true }

abbrev child : Offered
child = offered (codes "$8") r

abbrev parent : Offered
parent = offered (codes "$7") r

abbrev elsewhere : Offered
elsewhere = offered (codes "$13") s

-- ---- turns

other-origin : same t1 (record { origin = codes "b.example"; txn = codes "t1" }) ≡ false
other-origin = refl

own-turns : turn t1 (Next t1 ∷ Next t2 ∷ Next t1 ∷ []) ≡ 2
own-turns = refl

closed-too-early : is_closed t1 2 (Next t1 ∷ Close t1 ∷ Next t1 ∷ []) ≡ false
closed-too-early = refl

closed-at-last : is_closed t1 2 (Next t1 ∷ Close t1 ∷ Next t1 ∷ Close t1 ∷ []) ≡ true
closed-at-last = refl

kept-before : opening (record { record_at = λ room. []; kept_at = λ p. Some (codes "{}") }) t1 (Next t1 ∷ []) ≡ None
kept-before = refl

one-left : status_by t1 None (Some (record { events = child ∷ parent ∷ []; since = Next t1 ∷ Close t1 ∷ [] })) [] ≡ waiting (parent ∷ []) []
one-left = refl

-- ---- replies

abbrev none_hosted : List ℕ → List Kept
none_hosted room = []

next-unhosted : next_reply none_hosted a_server (waiting (child ∷ parent ∷ []) []) ≡ OfEvent (record { id = codes "$8"; outcome = None })
next-unhosted = refl

out-of-turn : next_reply none_hosted a_server (waiting [] []) ≡ NoMore
out-of-turn = refl

closed-out-of-turn : close_reply (waiting (child ∷ parent ∷ []) []) ≡ MoreLeft 2
closed-out-of-turn = refl

opened-again : open_reply (child ∷ []) (waiting (parent ∷ []) []) ≡ Busy
opened-again = refl

opened-after-its-end : open_reply (child ∷ []) (ended (codes "{}")) ≡ Replayed (codes "{}")
opened-after-its-end = refl

next-after-its-end : next_reply none_hosted a_server (ended (codes "{}")) ≡ NotOpen
next-after-its-end = refl

-- a child before its parent, and sent again after it: the last text stands
child-first : body_of (record { id = codes "$8"; outcome = Some (outcome.Refused MissingEvents) } ∷ record { id = codes "$7"; outcome = Some (outcome.Kept Accepted) } ∷ [])
    ≡ codes "{\"pdus\":{\"$7\":{},\"$8\":{\"error\":\"missing events\"}}}"
unfolding body_of canonical_text chars
child-first = refl

child-again : body_of (record { id = codes "$8"; outcome = Some (outcome.Refused MissingEvents) } ∷ record { id = codes "$8"; outcome = Some (outcome.Kept Accepted) } ∷ []) ≡ codes "{\"pdus\":{\"$8\":{}}}"
unfolding body_of canonical_text chars
child-again = refl

-- ---- one transaction for two rooms

own-room : offers r a_server (child ∷ elsewhere ∷ []) ≡ to_offer a_server child ∷ []
own-room = refl

other-room : offers s a_server (child ∷ elsewhere ∷ []) ≡ []
other-room = refl

-- ---- a query that names a room

abbrev state_asked : List ℕ → Call
state_asked room = to_ask a_server 5 (ask_state_ids room (codes "$7"))

asked-where-named : if_put_to r (state_asked r) ≡ state_asked r ∷ []
asked-where-named = refl

asked-nowhere-else : if_put_to s (state_asked r) ≡ []
asked-nowhere-else = refl

asked-of-no-room : answer [] (state_asked r) ≡ NotHosted
asked-of-no-room = refl

-- it concerns the room also where the event is not held
heard-where-named : hears [] (state_asked r) ≡ true
heard-where-named = refl

-- ---- two rooms that stand apart

abbrev holding : List ℕ → List ℕ → List Kept
holding id room = record { id = id; event = event_in room; verdict = Accepted } ∷ []

abbrev two_rooms : Start
two_rooms = record { record_at = λ room. if bytes_eq room r then holding (codes "$7") r else (if bytes_eq room s then holding (codes "$13") s else []); kept_at = λ p. None }

abbrev two_queries : List Step
two_queries = Ask a_server 5 (ask_event (codes "$7")) ∷ Ask a_server 6 (ask_event (codes "$13")) ∷ []

in-no-other : (other : List ℕ) → IsTrue (holds (two_rooms.record_at other) (codes "$7")) → r ≡ other
in-no-other other =
    elim (bytes_eq other r) as (λ b. bytes_eq other r ≡ b → IsTrue (holds (cond b (holding (codes "$7") r) (cond (bytes_eq other s) (holding (codes "$13") s) [])) (codes "$7")) → r ≡ other) [
      | true ↦ λ same h. sym ((bytes_eq-Decides other r).0 same)
      | false ↦ λ apart. elim (bytes_eq other s) as (λ b. IsTrue (holds (cond b (holding (codes "$13") s) []) (codes "$7")) → r ≡ other) [
        | true ↦ λ h. absurd (false≢true h)
        | false ↦ λ h. absurd (false≢true h)
      ]
    ] refl

two-rooms-apart : StayApart two_rooms r [] two_queries
two-rooms-apart = ((λ h. in-no-other), ((λ h. absurd (false≢true h)), tt))
