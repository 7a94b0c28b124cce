-- A room, its record, and events that come after it.
use Rattle.std.specs.Prelude.{ℕ, List, [], ◌∷◌, codes, map, fold}
use Prim.Native.String.{String}
use Rattle.serde_json.specs.Data.{Data}
use Rattle.mx_redact.specs.Fields.{Event}
use Rattle.mx_auth.proofs.RoomBase.{event, keyed, fields, membership, text, e1, e2, e3, e4, e5, e6}
use Rattle.mx_receipt.specs.Receipt.{Kept, received}
use Rattle.mx_receipt.specs.declared.verdicts.Verdict.TheVariants.{Accepted}

-- an event with its id
abbrev pub Arrival : Type 0
Arrival = List ℕ × Event

abbrev pub arrival : String → Event → Arrival
arrival id e = (codes id, e)

-- A created it, B and C have joined, and each of the three sends from its own server
abbrev pub base : List Kept
base =
    map (λ a. record { id = a.0; event = a.1; verdict = Accepted })
    (arrival "$1" e1 ∷ arrival "$2" e2 ∷ arrival "$3" e3 ∷ arrival "$4" e4 ∷ arrival "$5" e5 ∷ arrival "$6" e6 ∷ [])

-- the record after more events
abbrev pub received_all : List Kept → List Arrival → List Kept
received_all kept arrivals = fold received kept arrivals

-- the auth events of A
abbrev pub auth_of_A : List (List ℕ)
auth_of_A = codes "$1" ∷ codes "$2" ∷ codes "$3" ∷ []

-- a state event by A
abbrev pub state_event : String → ℕ → String → String → Data → List ℕ → Arrival
state_event id n type key content prev = arrival id (event n type (keyed key) "@a:a.example" content (prev ∷ []) auth_of_A)

-- a message, with a text
abbrev pub message : String → ℕ → String → List ℕ → List (List ℕ) → Arrival
message id n sender prev auth = arrival id (event n "m.room.message" [] sender (fields ((codes "body", text "x") ∷ [])) (prev ∷ []) auth)

-- a join, of which the auth events are those of a public room
abbrev pub join : String → ℕ → String → List ℕ → Arrival
join id n user prev = arrival id (event n "m.room.member" (keyed user) user (membership "join") (prev ∷ []) (codes "$1" ∷ codes "$3" ∷ codes "$4" ∷ []))
