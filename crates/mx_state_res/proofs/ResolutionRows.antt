-- Worked examples: trivial resolutions, the create event in the auth difference, the race of a demotion, and a mainline
-- without power levels.
use Rattle.std.specs.Prelude.{◌≡◌, refl, ℕ, List, [], ◌∷◌, codes, false, Some, None}
use Rattle.mx_redact.specs.Fields.{Event}
use Rattle.mx_auth.proofs.RoomBase.{event, keyed, fields, no_fields, users, e1, e2, e3, e4, e5, e6}
use Rattle.mx_auth.specs.declared.versions.RoomVersion.TheVariants.{V6}
use Rattle.mx_graph.specs.Record.{Row}
use Rattle.mx_graph.specs.StateMap.{State}
use Rattle.mx_orders.specs.PowerOrder.{power_order}
use Rattle.mx_orders.specs.Mainline.{mainline, mainline_order}
use Rattle.mx_state_res.specs.Resolution.{auth_difference, full_conflicted, power_events, resolve}
use Rattle.mx_state_res.proofs.ResolutionOnExamples.{resolution_on_examples}
use Prim.Native.String.{String}

abbrev a_row : String → Event → Row
a_row id e = record { id = codes id; event = e; rejected = false }

-- A gives B level 0 while B sets the topic
abbrev e7 : Event
e7 = event 7 "m.room.topic" (keyed "") "@a:a.example" no_fields (codes "$6" ∷ []) (codes "$1" ∷ codes "$2" ∷ codes "$3" ∷ [])

abbrev e8 : Event
e8 = event 8 "m.room.power_levels" (keyed "") "@a:a.example" (fields ((codes "users", users 0 50) ∷ [])) (codes "$7" ∷ []) (codes "$1" ∷ codes "$2" ∷ codes "$3" ∷ [])

abbrev e9 : Event
e9 = event 9 "m.room.topic" (keyed "") "@b:b.example" no_fields (codes "$7" ∷ []) (codes "$1" ∷ codes "$3" ∷ codes "$5" ∷ [])

abbrev base : List Row
base = a_row "$1" e1 ∷ a_row "$2" e2 ∷ a_row "$3" e3 ∷ a_row "$4" e4 ∷ a_row "$5" e5 ∷ a_row "$6" e6 ∷ []

abbrev race : List Row
race = a_row "$1" e1 ∷ a_row "$2" e2 ∷ a_row "$3" e3 ∷ a_row "$4" e4 ∷ a_row "$5" e5 ∷ a_row "$6" e6 ∷ a_row "$7" e7 ∷ a_row "$8" e8 ∷ a_row "$9" e9 ∷ []

abbrev after_create : State
after_create = ((codes "m.room.create", []), 0) ∷ []

abbrev after_base : State
after_base = ((codes "m.room.create", []), 0) ∷ ((codes "m.room.join_rules", []), 3)
    ∷ ((codes "m.room.member", codes "@a:a.example"), 1) ∷ ((codes "m.room.member", codes "@b:b.example"), 4)
    ∷ ((codes "m.room.member", codes "@c:c.example"), 5) ∷ ((codes "m.room.power_levels", []), 2) ∷ []

abbrev after_demotion : State
after_demotion = ((codes "m.room.create", []), 0) ∷ ((codes "m.room.join_rules", []), 3)
    ∷ ((codes "m.room.member", codes "@a:a.example"), 1) ∷ ((codes "m.room.member", codes "@b:b.example"), 4)
    ∷ ((codes "m.room.member", codes "@c:c.example"), 5) ∷ ((codes "m.room.power_levels", []), 7) ∷ ((codes "m.room.topic", []), 6) ∷ []

abbrev after_topic : State
after_topic = ((codes "m.room.create", []), 0) ∷ ((codes "m.room.join_rules", []), 3)
    ∷ ((codes "m.room.member", codes "@a:a.example"), 1) ∷ ((codes "m.room.member", codes "@b:b.example"), 4)
    ∷ ((codes "m.room.member", codes "@c:c.example"), 5) ∷ ((codes "m.room.power_levels", []), 2) ∷ ((codes "m.room.topic", []), 8) ∷ []

-- ---- trivial resolutions

resolve-none : resolve V6 base [] ≡ []
unfolding resolution_on_examples
resolve-none = refl

resolve-one : resolve V6 base (after_base ∷ []) ≡ after_base
unfolding resolution_on_examples
resolve-one = refl

resolve-equal : resolve V6 base (after_base ∷ after_base ∷ []) ≡ after_base
unfolding resolution_on_examples
resolve-equal = refl

-- ---- the create event alone, and the room after it

difference-create : auth_difference base (after_create ∷ after_base ∷ []) ≡ 0 ∷ 1 ∷ 2 ∷ 3 ∷ []
unfolding resolution_on_examples
difference-create = refl

resolve-create : resolve V6 base (after_create ∷ after_base ∷ []) ≡ after_base
unfolding resolution_on_examples
resolve-create = refl

-- ---- the race of a demotion

full-race : full_conflicted race (after_demotion ∷ after_topic ∷ []) ≡ 2 ∷ 4 ∷ 6 ∷ 7 ∷ 8 ∷ []
unfolding resolution_on_examples
full-race = refl

power-race : power_events race (2 ∷ 4 ∷ 6 ∷ 7 ∷ 8 ∷ []) ≡ 2 ∷ 7 ∷ []
unfolding resolution_on_examples
power-race = refl

order-race : power_order race (2 ∷ 7 ∷ []) ≡ 2 ∷ 7 ∷ []
unfolding resolution_on_examples
order-race = refl

rest-race : mainline_order race (mainline race (Some 7)) (4 ∷ 6 ∷ 8 ∷ []) ≡ 4 ∷ 6 ∷ 8 ∷ []
unfolding resolution_on_examples
rest-race = refl

resolve-race : resolve V6 race (after_demotion ∷ after_topic ∷ []) ≡ after_demotion
unfolding resolution_on_examples
resolve-race = refl

-- ---- two topics without power levels: the mainline is empty, and the later one stands

abbrev t3 : Event
t3 = event 3 "m.room.topic" (keyed "") "@a:a.example" no_fields (codes "$2" ∷ []) (codes "$1" ∷ codes "$2" ∷ [])

abbrev t4 : Event
t4 = event 4 "m.room.topic" (keyed "") "@a:a.example" no_fields (codes "$2" ∷ []) (codes "$1" ∷ codes "$2" ∷ [])

abbrev topics : List Row
topics = a_row "$1" e1 ∷ a_row "$2" e2 ∷ a_row "$4" t4 ∷ a_row "$3" t3 ∷ []

abbrev with_topic : ℕ → State
with_topic p = ((codes "m.room.create", []), 0) ∷ ((codes "m.room.member", codes "@a:a.example"), 1) ∷ ((codes "m.room.topic", []), p) ∷ []

full-topics : full_conflicted topics (with_topic 2 ∷ with_topic 3 ∷ []) ≡ 2 ∷ 3 ∷ []
unfolding resolution_on_examples
full-topics = refl

order-topics : mainline_order topics (mainline topics None) (2 ∷ 3 ∷ []) ≡ 3 ∷ 2 ∷ []
unfolding resolution_on_examples
order-topics = refl

resolve-topics : resolve V6 topics (with_topic 2 ∷ with_topic 3 ∷ []) ≡ with_topic 2
unfolding resolution_on_examples
resolve-topics = refl
