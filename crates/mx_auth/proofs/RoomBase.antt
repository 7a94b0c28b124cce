-- A small room: A creates it, gives B and C level 50, opens it, and they join.
use Rattle.std.specs.Prelude.{ℕ, ◌*◌, ◌∷◌, [], List, codes, Some, ◌&&◌, bytes_eq, find}
use Rattle.serde_json.specs.Data.{Data, string, number, unsigned, array, object, Items, no_items, item, Members, no_members, put}
use Rattle.mx_redact.specs.Fields.{Event, kind, is_text}
use Rattle.mx_pdu.specs.Event.{state_key_of}
use Rattle.mx_auth.specs.StateView.{StateView}
use Prim.Native.String.{String}

abbrev pub text : String → Data
text s = string (codes s)

abbrev pub num : ℕ → Data
num n = number (unsigned n)

abbrev pub texts : List (List ℕ) → Items
texts [] = no_items
texts (x ∷ xs) = item (string x) (texts xs)

abbrev pub members : List (List ℕ × Data) → Members
members [] = no_members
members (m ∷ ms) = put m.0 m.1 (members ms)

abbrev pub fields : List (List ℕ × Data) → Data
fields ms = object (members ms)

abbrev pub no_fields : Data
no_fields = object no_members

-- an event of the room: number, type, state key, sender, content, prev and auth events
abbrev pub event : ℕ → String → List (List ℕ × Data) → String → Data → List (List ℕ) → List (List ℕ) → Event
event n type state_key sender content prev auth =
    fields ((codes "auth_events", array (texts auth)) ∷ (codes "content", content) ∷ (codes "depth", num n)
    ∷ (codes "hashes", no_fields) ∷ (codes "origin_server_ts", num (10 * n)) ∷ (codes "prev_events", array (texts prev))
    ∷ (codes "room_id", text "!r:a.example") ∷ (codes "sender", text sender) ∷ (codes "signatures", no_fields)
    ∷ (codes "type", text type) ∷ state_key)

abbrev pub keyed : String → List (List ℕ × Data)
keyed s = (codes "state_key", text s) ∷ []

abbrev pub membership : String → Data
membership m = fields ((codes "membership", text m) ∷ [])

abbrev pub e1 : Event
e1 = event 1 "m.room.create" (keyed "") "@a:a.example" (fields ((codes "creator", text "@a:a.example") ∷ (codes "room_version", text "6") ∷ [])) [] []

abbrev pub e2 : Event
e2 = event 2 "m.room.member" (keyed "@a:a.example") "@a:a.example" (membership "join") (codes "$1" ∷ []) (codes "$1" ∷ [])

abbrev pub users : ℕ → ℕ → Data
users b c = fields ((codes "@a:a.example", num 100) ∷ (codes "@b:b.example", num b) ∷ (codes "@c:c.example", num c) ∷ [])

abbrev pub e3 : Event
e3 = event 3 "m.room.power_levels" (keyed "") "@a:a.example" (fields ((codes "users", users 50 50) ∷ [])) (codes "$2" ∷ []) (codes "$1" ∷ codes "$2" ∷ [])

abbrev pub e4 : Event
e4 = event 4 "m.room.join_rules" (keyed "") "@a:a.example" (fields ((codes "join_rule", text "public") ∷ [])) (codes "$3" ∷ []) (codes "$1" ∷ codes "$2" ∷ codes "$3" ∷ [])

abbrev pub e5 : Event
e5 = event 5 "m.room.member" (keyed "@b:b.example") "@b:b.example" (membership "join") (codes "$4" ∷ []) (codes "$1" ∷ codes "$3" ∷ codes "$4" ∷ [])

abbrev pub e6 : Event
e6 = event 6 "m.room.member" (keyed "@c:c.example") "@c:c.example" (membership "join") (codes "$5" ∷ []) (codes "$1" ∷ codes "$3" ∷ codes "$4" ∷ [])

-- the state that holds these events, the create event being `$1`
abbrev pub state : List Event → StateView
state es =
    record {
      create_id = Some (codes "$1");
      entry = λ type key. find (λ e. bytes_eq (kind e) type && is_text key (state_key_of e)) es;
    }
