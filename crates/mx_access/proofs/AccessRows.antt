-- Worked examples of what a server sees: history visibility, and redactions.
use Rattle.std.specs.Prelude.{◌≡◌, refl, ℕ, true, false, List, [], ◌∷◌, codes, map, Option, None, Some}
use Rattle.mx_redact.specs.Fields.{Event}
use Rattle.mx_redact.specs.Redaction.{redact}
use Rattle.mx_auth.proofs.RoomBase.{event, keyed, no_fields}
use Rattle.mx_receipt.specs.Receipt.{Kept}
use Rattle.mx_access.specs.Access.{in_room, is_redacted, served, shown}
use Rattle.mx_access.proofs.AccessOnExamples.{access_on_examples}
use Rattle.mx_access.proofs.ExampleHistories.{emptied, first_message, history, join_of_D, redacted_by, redacted_by_B, redaction, said, second_message, then_joined}
use Rattle.mx_access.proofs.ExampleRoom.{arrival, base, received_all, message}

abbrev b_server : List ℕ
b_server = codes "b.example"

abbrev d_server : List ℕ
d_server = codes "d.example"

-- ---- servers in the room

in_room-b : in_room base b_server ≡ true
unfolding access_on_examples
in_room-b = refl

in_room-d : in_room base d_server ≡ false
unfolding access_on_examples
in_room-d = refl

-- ---- effective redaction: a message by C, and a redaction of it

by_level : served redacted_by_B 6 ≡ emptied
unfolding access_on_examples
by_level = refl

by_level-shown : shown redacted_by_B b_server 6 ≡ Some emptied
unfolding access_on_examples
by_level-shown = refl

by_stranger : served (redacted_by "@d:d.example") 6 ≡ said.1
unfolding access_on_examples
by_stranger = refl

by_same_server : served (redacted_by "@x:c.example") 6 ≡ emptied
unfolding access_on_examples
by_same_server = refl

-- the redaction before the event that it names
abbrev redacted_early : List Kept
redacted_early = received_all base (redaction "$8" 8 "@b:b.example" (codes "$6") (codes "$5") ∷ message "$7" 7 "@c:c.example" (codes "$8") (codes "$1" ∷ codes "$3" ∷ codes "$6" ∷ []) ∷ [])

early : is_redacted redacted_early 7 ≡ true
unfolding access_on_examples
early = refl

-- ---- joined history: D is invited, a message is sent, and D joins

-- what d.example is shown of the two
abbrev shown_to_d : List Kept → List (Option Event)
shown_to_d kept = map (shown kept d_server) (7 ∷ 9 ∷ [])

joined-invited : shown_to_d (history "joined") ≡ None ∷ None ∷ []
unfolding access_on_examples
joined-invited = refl

joined-to_b : shown (history "joined") b_server 9 ≡ Some second_message
unfolding access_on_examples
joined-to_b = refl

joined-joined : shown_to_d (then_joined (history "joined")) ≡ Some (redact first_message) ∷ Some (redact second_message) ∷ []
unfolding access_on_examples
joined-joined = refl

-- D's own join is seen by the state after it
joined-own_join : shown (then_joined (history "joined")) d_server 10 ≡ Some join_of_D.1
unfolding access_on_examples
joined-own_join = refl

invited-invited : shown_to_d (history "invited") ≡ None ∷ Some second_message ∷ []
unfolding access_on_examples
invited-invited = refl

shared-invited : shown_to_d (history "shared") ≡ None ∷ None ∷ []
unfolding access_on_examples
shared-invited = refl

unknown-joined : shown_to_d (then_joined (history "unknown")) ≡ Some first_message ∷ Some second_message ∷ []
unfolding access_on_examples
unknown-joined = refl

world_readable-invited : shown_to_d (history "world_readable") ≡ Some first_message ∷ Some second_message ∷ []
unfolding access_on_examples
world_readable-invited = refl

-- ---- a rejected event: a topic by D, who has not joined

abbrev with_rejected : List Kept
with_rejected = received_all base (arrival "$7" (event 7 "m.room.topic" (keyed "") "@d:d.example" no_fields (codes "$6" ∷ []) (codes "$1" ∷ codes "$3" ∷ [])) ∷ [])

rejected : shown with_rejected b_server 6 ≡ None
unfolding access_on_examples
rejected = refl
