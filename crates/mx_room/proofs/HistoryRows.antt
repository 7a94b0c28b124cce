-- Worked examples of queries: redacted events, history visibility, and rejected events.
use Rattle.std.specs.Prelude.{◌≡◌, refl, ℕ, List, [], ◌∷◌, codes, map, Ok, Err}
use Rattle.mx_redact.specs.Fields.{Event}
use Rattle.mx_redact.specs.Redaction.{redact}
use Rattle.mx_receipt.specs.Receipt.{kept_at}
use Rattle.mx_access.proofs.ExampleHistories.{emptied, history, join_of_D, redacted_by, redacted_by_B, said, second_message, then_joined}
use Rattle.mx_access.proofs.ExampleRoom.{base}
use Rattle.mx_room.specs.Queries.{query_answer}
use Rattle.mx_room.specs.declared.queries.Denied.TheVariants.{NotFound}
use Rattle.mx_room.specs.declared.queries.Query.TheVariants as ask
use Rattle.mx_room.specs.declared.queries.QueryReply.TheVariants as gives
use Rattle.mx_room.proofs.RoomOnExamples.{room_on_examples}

abbrev r : List ℕ
r = codes "!r:a.example"

abbrev b_server : List ℕ
b_server = codes "b.example"

abbrev d_server : List ℕ
d_server = codes "d.example"

-- the events at these places, as they are kept
abbrev those : List ℕ → List Event
those ps = map (λ p. (kept_at base p).event) ps

-- ---- a state, and lists of none and of all

state-5 : query_answer base b_server 0 (ask.State r (codes "$5")) ≡ Ok (gives.State (those (0 ∷ 3 ∷ 1 ∷ 2 ∷ [])) (those (0 ∷ 1 ∷ 2 ∷ [])))
unfolding room_on_examples
state-5 = refl

backfill-none : query_answer base b_server 0 (ask.Backfill r (codes "$6" ∷ []) 0) ≡ Ok (gives.Events [])
unfolding room_on_examples
backfill-none = refl

missing-all : query_answer base b_server 0 (ask.Missing r (codes "$2" ∷ []) (codes "$6" ∷ []) 10 0) ≡ Ok (gives.Events (those (2 ∷ 3 ∷ 4 ∷ [])))
unfolding room_on_examples
missing-all = refl

-- ---- effective redaction: by the level, by a stranger, and by a user of the sender's server

redacted-by_level : query_answer redacted_by_B b_server 0 (ask.Event (codes "$7")) ≡ Ok (gives.Event emptied)
unfolding room_on_examples
redacted-by_level = refl

whole-by_stranger : query_answer (redacted_by "@d:d.example") b_server 0 (ask.Event (codes "$7")) ≡ Ok (gives.Event said.1)
unfolding room_on_examples
whole-by_stranger = refl

redacted-by_server : query_answer (redacted_by "@x:c.example") b_server 0 (ask.Event (codes "$7")) ≡ Ok (gives.Event emptied)
unfolding room_on_examples
redacted-by_server = refl

-- ---- joined history: D is invited, a message is sent, and D joins

hidden-from_invited : query_answer (history "joined") d_server 0 (ask.Event (codes "$10")) ≡ Err NotFound
unfolding room_on_examples
hidden-from_invited = refl

whole-to_joined : query_answer (history "joined") b_server 0 (ask.Event (codes "$10")) ≡ Ok (gives.Event second_message)
unfolding room_on_examples
whole-to_joined = refl

-- D is in the room afterwards, and is given what came before redacted
emptied-after_join : query_answer (then_joined (history "joined")) d_server 0 (ask.Backfill r (codes "$11" ∷ []) 2)
    ≡ Ok (gives.Events (join_of_D.1 ∷ redact second_message ∷ []))
unfolding room_on_examples
emptied-after_join = refl

whole-to_invited : query_answer (history "invited") d_server 0 (ask.Event (codes "$10")) ≡ Ok (gives.Event second_message)
unfolding room_on_examples
whole-to_invited = refl

hidden-before_invite : query_answer (history "invited") d_server 0 (ask.Event (codes "$8")) ≡ Err NotFound
unfolding room_on_examples
hidden-before_invite = refl
