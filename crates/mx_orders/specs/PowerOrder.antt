-- Reverse topological power ordering (Matrix specification, Room Version 2, state resolution).
use Rattle.std.specs.Prelude.{ℕ, ℤ, pos, Bool, true, not, ◌&&◌, if◌then◌else◌, List, [], ◌∷◌, map, filter, flat_map, unwrap_or, is_none}
use Rattle.std.specs.declared.cmp.Ordering.{Ordering}
use Rattle.std.specs.Ordering.{ord_min, then_cmp, flip_args, on, nat_cmp, int_cmp}
use Rattle.std.specs.List.{list_all, reduce}
use Rattle.std.specs.Cmp.Lexicographic.{slice_cmp}
use Rattle.mx_pdu.specs.Event.{sender_of, timestamp_of}
use Rattle.mx_auth.specs.StateView.{StateView, create_of, level_of}
use Rattle.mx_graph.specs.Record.{Row, is_in, row, event, auth_events}
use Rattle.mx_graph.specs.Graph.{auth_chain}
use Rattle.mx_orders.specs.StateMap.{view, state_of}

-- ---- the least list

-- the lists with x put in at each place
abbrev pub insertions : {A : Type 0} → A → List A → List (List A)
insertions x [] = (x ∷ []) ∷ []
insertions x (y ∷ ys) = (x ∷ y ∷ ys) ∷ map (λ zs. y ∷ zs) (insertions x ys)

-- the lists that have each element once
abbrev pub permutations : {A : Type 0} → List A → List (List A)
permutations [] = [] ∷ []
permutations (x ∷ xs) = flat_map (insertions x) (permutations xs)

-- each element comes after those of the list that have to stand before it
abbrev pub is_topological : {A : Type 0} → (A → A → Bool) → List A → Bool
is_topological before [] = true
is_topological before (x ∷ xs) = list_all (λ y. not (before y x)) xs && is_topological before xs

-- the least of the lists, place by place
abbrev pub least : {A : Type 0} → (A → A → Ordering) → List (List A) → List A
least cmp lists = unwrap_or (reduce (ord_min (slice_cmp cmp)) lists) []

abbrev pub least_topological : {A : Type 0} → (A → A → Bool) → (A → A → Ordering) → List A → List A
least_topological before cmp xs = least cmp (filter (is_topological before) (permutations xs))

-- ---- of events

-- the user's power level in a state; 0 where that has no create event
abbrev pub level_in : StateView → List ℕ → ℤ
level_in s user = if is_none (create_of s) then pos 0 else level_of s user

-- the sender's power level by the event's own auth events
unfoldable pub sender_level : List Row → ℕ → ℤ
sender_level rows p = level_in (view rows (state_of rows (auth_events rows (event rows p)))) (sender_of (event rows p))

-- greater power level, earlier `origin_server_ts`, lesser event id
abbrev pub power_cmp : List Row → ℕ → ℕ → Ordering
power_cmp rows =
    then_cmp (flip_args (on (sender_level rows) int_cmp))
    (then_cmp (on (λ p. timestamp_of (event rows p)) int_cmp) (on (λ p. (row rows p).id) (slice_cmp nat_cmp)))

-- the least list of these events in which each comes after those that stand in its auth chain
unfoldable pub power_order : List Row → List ℕ → List ℕ
power_order rows xs = least_topological (λ x y. is_in (auth_chain rows (y ∷ [])) x) (power_cmp rows) xs
