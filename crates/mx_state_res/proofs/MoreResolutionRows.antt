-- More worked examples of the resolution, each of which a likely slip in a definition would change.
use Rattle.std.specs.Prelude.{◌≡◌, refl, ℕ, ◌+◌, ◌++◌, List, [], ◌∷◌, codes, map, true, false, Option, Some, None}
use Prim.Native.String.{String}
use Rattle.serde_json.specs.Data.{Data}
use Rattle.mx_redact.specs.Fields.{Event}
use Rattle.mx_pdu.specs.StateKeys.{Key}
use Rattle.mx_auth.proofs.RoomBase.{event, keyed, text, fields, no_fields, membership, users, e1, e2, e3, e4, e5, e6}
use Rattle.mx_auth.specs.declared.versions.RoomVersion.TheVariants.{V6}
use Rattle.mx_graph.specs.Record.{Row}
use Rattle.mx_graph.specs.StateMap.{State}
use Rattle.mx_orders.specs.PowerOrder.{power_order}
use Rattle.mx_state_res.specs.Resolution.{resolve, full_conflicted, power_events, iterative_auth_checks}
use Rattle.mx_state_res.proofs.ResolutionOnExamples.{resolution_on_examples}

abbrev id : ℕ → List ℕ
id n = 36 ∷ (48 + n) ∷ []

abbrev a_row : ℕ → Event → Row
a_row n e = record { id = id n; event = e; rejected = false }

-- a state event by its number, type, state key, sender, auth events and content
abbrev by_number : ℕ → String → String → String → List ℕ → Data → Row
by_number n type key sender auth content = a_row n (event n type (keyed key) sender content [] (map id auth))

abbrev member : ℕ → String → String → String → List ℕ → Row
member n sender target m auth = by_number n "m.room.member" target sender auth (membership m)

abbrev join_rules : ℕ → String → List ℕ → Row
join_rules n sender auth = by_number n "m.room.join_rules" "" sender auth (fields ((codes "join_rule", text "public") ∷ []))

-- A sets the levels of B and C
abbrev power_levels : ℕ → List ℕ → ℕ → Row
power_levels n auth level = by_number n "m.room.power_levels" "" "@a:a.example" auth (fields ((codes "users", users level 50) ∷ []))

abbrev topic : ℕ → String → List ℕ → Row
topic n sender auth = by_number n "m.room.topic" "" sender auth no_fields

abbrev base : List Row
base = a_row 1 e1 ∷ a_row 2 e2 ∷ a_row 3 e3 ∷ a_row 4 e4 ∷ a_row 5 e5 ∷ a_row 6 e6 ∷ []

abbrev with_entry : Option ℕ → Key → State → State
with_entry None key s = s
with_entry (Some p) key s = (key, p) ∷ s

-- the create event and the join of A, and by their places join rules, the join of B, a name, power levels and a topic
abbrev state : ℕ → Option ℕ → Option ℕ → ℕ → Option ℕ → State
state rules b name power t =
    ((codes "m.room.create", []), 0) ∷ ((codes "m.room.join_rules", []), rules) ∷ ((codes "m.room.member", codes "@a:a.example"), 1)
    ∷ with_entry b (codes "m.room.member", codes "@b:b.example") (with_entry name (codes "m.room.name", [])
    (((codes "m.room.power_levels", []), power) ∷ with_entry t (codes "m.room.topic", []) []))

-- ---- the greater power level first: join rules $7 by B, at 50, and then $8 by A, at 100

higher_level_first : power_order (base ++ join_rules 7 "@b:b.example" (1 ∷ 3 ∷ 5 ∷ []) ∷ join_rules 8 "@a:a.example" (1 ∷ 2 ∷ 3 ∷ []) ∷ []) (6 ∷ 7 ∷ []) ≡ 7 ∷ 6 ∷ []
unfolding resolution_on_examples
higher_level_first = refl

-- ---- power events: a ban by another and a kick are, one's own leave is not

power_events-members : power_events (base ++ member 7 "@a:a.example" "@c:c.example" "ban" (1 ∷ 2 ∷ 3 ∷ 6 ∷ []) ∷ member 8 "@a:a.example" "@b:b.example" "leave" (1 ∷ 2 ∷ 3 ∷ 5 ∷ []) ∷ member 9 "@c:c.example" "@c:c.example" "leave" (1 ∷ 3 ∷ 6 ∷ []) ∷ []) (6 ∷ 7 ∷ 8 ∷ []) ≡ 6 ∷ 7 ∷ []
unfolding resolution_on_examples
power_events-members = refl

-- those of the set that stand in the auth chain of a power event come with it: B's join under B's join rules
power_events-chains : power_events (base ++ join_rules 7 "@b:b.example" (1 ∷ 3 ∷ 5 ∷ []) ∷ []) (4 ∷ 5 ∷ 6 ∷ []) ≡ 4 ∷ 6 ∷ []
unfolding resolution_on_examples
power_events-chains = refl

-- ---- what is unconflicted is put back: older join rules stand in the auth difference, and both states have newer ones

abbrev newer_rules : List Row
newer_rules =
    a_row 1 e1 ∷ a_row 2 e2 ∷ power_levels 3 (1 ∷ 2 ∷ []) 50 ∷ join_rules 4 "@a:a.example" (1 ∷ 2 ∷ 3 ∷ [])
    ∷ member 5 "@b:b.example" "@b:b.example" "join" (1 ∷ 3 ∷ 4 ∷ []) ∷ join_rules 6 "@a:a.example" (1 ∷ 2 ∷ 3 ∷ []) ∷ []

newer_rules-full : full_conflicted newer_rules (state 5 (Some 4) None 2 None ∷ state 5 None None 2 None ∷ []) ≡ 3 ∷ 4 ∷ []
unfolding resolution_on_examples
newer_rules-full = refl

newer_rules-resolved : resolve V6 newer_rules (state 5 (Some 4) None 2 None ∷ state 5 None None 2 None ∷ []) ≡ state 5 (Some 4) None 2 None
unfolding resolution_on_examples
newer_rules-resolved = refl

-- ---- the checks begin at what is unconflicted: power levels $8 with B at 0 in both states, topic $9 by B in one

lowered-resolved : resolve V6 (base ++ topic 9 "@b:b.example" (1 ∷ 3 ∷ 5 ∷ []) ∷ power_levels 8 (1 ∷ 2 ∷ 3 ∷ []) 0 ∷ []) (state 3 (Some 4) None 7 (Some 6) ∷ state 3 (Some 4) None 7 None ∷ []) ≡ state 3 (Some 4) None 7 None
unfolding resolution_on_examples
lowered-resolved = refl

-- ---- a needed key that the state lacks is taken from the auth events: no state has B's join, each has an event by B

by_b-resolved : resolve V6 (base ++ topic 7 "@b:b.example" (1 ∷ 3 ∷ 5 ∷ []) ∷ by_number 8 "m.room.name" "" "@b:b.example" (1 ∷ 3 ∷ 5 ∷ []) no_fields ∷ []) (state 3 None None 2 (Some 6) ∷ state 3 None (Some 7) 2 None ∷ []) ≡ state 3 None (Some 7) 2 (Some 6)
unfolding resolution_on_examples
by_b-resolved = refl

-- but not from a rejected one
without_b-checked : iterative_auth_checks V6 (base ++ record (member 7 "@b:b.example" "@b:b.example" "join" (1 ∷ 3 ∷ 4 ∷ [])) { rejected = true } ∷ topic 8 "@b:b.example" (1 ∷ 3 ∷ 7 ∷ []) ∷ []) (state 3 None None 2 None) (7 ∷ []) ≡ state 3 None None 2 None
unfolding resolution_on_examples
without_b-checked = refl

-- ---- the mainline is that of the partial state: the later topic under power levels $3, the earlier under $8 in both states

abbrev two_topics : List Row
two_topics =
    base ++ a_row 7 (event 20 "m.room.topic" (keyed "") "@a:a.example" no_fields [] (map id (1 ∷ 2 ∷ 3 ∷ [])))
    ∷ power_levels 8 (1 ∷ 2 ∷ 3 ∷ []) 50 ∷ topic 9 "@a:a.example" (1 ∷ 2 ∷ 8 ∷ []) ∷ []

two_topics-resolved : resolve V6 two_topics (state 3 (Some 4) None 7 (Some 6) ∷ state 3 (Some 4) None 7 (Some 8) ∷ []) ≡ state 3 (Some 4) None 7 (Some 8)
unfolding resolution_on_examples
two_topics-resolved = refl
