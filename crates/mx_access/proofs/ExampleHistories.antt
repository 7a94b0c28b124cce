-- Events that come after those of the example room: redactions, and an invite with a join after it.
use Rattle.std.specs.Prelude.{ℕ, List, [], ◌∷◌, ◌++◌, codes}
use Prim.Native.String.{String}
use Rattle.mx_redact.specs.Fields.{Event}
use Rattle.mx_auth.proofs.RoomBase.{event, fields, keyed, membership, text, no_fields}
use Rattle.mx_receipt.specs.Receipt.{Kept}
use Rattle.mx_access.proofs.ExampleRoom.{Arrival, arrival, base, received_all, auth_of_A, state_event, message, join}

-- ---- a message by C, and redactions of it

abbrev pub said : Arrival
said = message "$7" 7 "@c:c.example" (codes "$6") (codes "$1" ∷ codes "$3" ∷ codes "$6" ∷ [])

abbrev pub emptied : Event
emptied = event 7 "m.room.message" [] "@c:c.example" no_fields (codes "$6" ∷ []) (codes "$1" ∷ codes "$3" ∷ codes "$6" ∷ [])

abbrev pub redaction : String → ℕ → String → List ℕ → List ℕ → Arrival
redaction id n sender prev member =
    arrival id (event n "m.room.redaction" ((codes "redacts", text "$7") ∷ []) sender no_fields (prev ∷ []) (codes "$1" ∷ codes "$3" ∷ member ∷ []))

-- by B, who has the level for redactions
abbrev pub redacted_by_B : List Kept
redacted_by_B = received_all base (said ∷ redaction "$8" 8 "@b:b.example" (codes "$7") (codes "$5") ∷ [])

-- by a user of level 0 who joined first
abbrev pub redacted_by : String → List Kept
redacted_by user = received_all base (said ∷ join "$8" 8 user (codes "$7") ∷ redaction "$9" 9 user (codes "$8") (codes "$8") ∷ [])

-- ---- D is invited, and joins

abbrev pub invite_D : String → ℕ → List ℕ → Arrival
invite_D id n prev = arrival id (event n "m.room.member" (keyed "@d:d.example") "@a:a.example" (membership "invite") (prev ∷ []) (auth_of_A ++ codes "$4" ∷ []))

abbrev pub by_A : String → ℕ → List ℕ → Arrival
by_A id n prev = message id n "@a:a.example" prev auth_of_A

-- a message before the invite and one after it
abbrev pub history : String → List Kept
history visibility =
    received_all base
    (state_event "$7" 7 "m.room.history_visibility" "" (fields ((codes "history_visibility", text visibility) ∷ [])) (codes "$6")
    ∷ by_A "$8" 8 (codes "$7") ∷ invite_D "$9" 9 (codes "$8") ∷ by_A "$10" 10 (codes "$9") ∷ [])

abbrev pub join_of_D : Arrival
join_of_D = arrival "$11" (event 11 "m.room.member" (keyed "@d:d.example") "@d:d.example" (membership "join") (codes "$10" ∷ []) (codes "$1" ∷ codes "$3" ∷ codes "$4" ∷ codes "$9" ∷ []))

abbrev pub then_joined : List Kept → List Kept
then_joined kept = received_all kept (join_of_D ∷ [])

abbrev pub first_message : Event
first_message = (by_A "$8" 8 (codes "$7")).1

abbrev pub second_message : Event
second_message = (by_A "$10" 10 (codes "$9")).1
