-- The state that some events make, by its entries.
use Rattle.std.proofs.Common.{◌≡◌, ℕ, Bool, cond, ◌&&◌, List, [], ◌∷◌, refl, sym, ap, ap₂, ◌∙◌}
use Rattle.std.specs.Prelude.{ℤ, codes, find as first_where, Option, Some, None, option_map, unwrap_or, is_none, if◌then◌else◌, pos}
use Rattle.std.specs.Ordering.{is_eq, eq_by_cmp, nat_cmp, ordering_then}
use Rattle.std.specs.declared.cmp.Ordering.{Ordering}
use Rattle.std.specs.declared.cmp.Ordering.TheVariants.{Less, Equal, Greater}
use Rattle.std.specs.Cmp.Lexicographic.{slice_cmp}
use Rattle.std.specs.FinMap.Entries.{find, put, find-put}
use Rattle.std.proofs.lemmas.Map.Text.{is_eq-slice_cmp}
use Rattle.mx_redact.specs.Fields.{is_some_and}
use Rattle.mx_pdu.specs.Event.{sender_of}
use Rattle.mx_levels.specs.Level.{user_level}
use Rattle.mx_pdu.specs.StateKeys.{Key}
use Rattle.mx_auth.specs.Rules.{key_of, same_key}
use Rattle.mx_graph.specs.Record.{Row, event, auth_events}
use Rattle.mx_graph.proofs.StateKeyLemmas.{key_cmp-total}
use Rattle.mx_graph.specs.StateMap.{key_cmp, State, entry}
use Rattle.mx_orders.specs.StateMap.{state_of, auth_event_at}
use Rattle.mx_orders.specs.PowerOrder.{sender_level}

is_eq-then : (r s : Ordering) → is_eq (ordering_then r s) ≡ (is_eq r && is_eq s)
is_eq-then Less s = refl
is_eq-then Equal s = refl
is_eq-then Greater s = refl

same_key-eq : (a b : Key) → eq_by_cmp key_cmp a b ≡ same_key a b
same_key-eq a b = is_eq-then (slice_cmp nat_cmp a.0 b.0) (slice_cmp nat_cmp a.1 b.1) ∙ ap₂ (λ x y. x && y) (is_eq-slice_cmp a.0 b.0) (is_eq-slice_cmp a.1 b.1)

abbrev has_key : List Row → Key → ℕ → Bool
has_key rows key p = is_some_and (same_key key) (key_of (event rows p))

entry-with : (s : State) (key : Key) (o : Option Key) (p : ℕ) → find key_cmp key (unwrap_or (option_map (λ k. put key_cmp k p s) o) s) ≡ cond (is_some_and (same_key key) o) (Some p) (find key_cmp key s)
entry-with s key None p = refl
entry-with s key (Some k) p = find-put key_cmp key_cmp-total key k p s ∙ ap (λ b. cond b (Some p) (find key_cmp key s)) (same_key-eq key k)

-- at a key stands the first event that has it
pub entry-state_of : (rows : List Row) (ps : List ℕ) (key : Key) → entry (state_of rows ps) key ≡ first_where (has_key rows key) ps
entry-state_of rows [] key = refl
entry-state_of rows (p ∷ ps) key = entry-with (state_of rows ps) key (key_of (event rows p)) p ∙ ap (λ o. cond (has_key rows key p) (Some p) o) (entry-state_of rows ps key)

abbrev level_by : List Row → ℕ → Option ℕ → Option ℕ → ℤ
level_by rows p create power = if is_none (option_map (event rows) create) then pos 0 else user_level (option_map (event rows) create) (option_map (event rows) power) (sender_of (event rows p))

-- the sender's level, by the two events that it comes from
pub sender_level-at : (rows : List Row) (p : ℕ) (create power : Option ℕ)
    → create ≡ auth_event_at rows (event rows p) (codes "m.room.create", []) → power ≡ auth_event_at rows (event rows p) (codes "m.room.power_levels", [])
    → sender_level rows p ≡ level_by rows p create power
unfolding sender_level
sender_level-at rows p create power e k =
    ap₂ (λ c d. level_by rows p c d)
    (entry-state_of rows (auth_events rows (event rows p)) (codes "m.room.create", []) ∙ sym e)
    (entry-state_of rows (auth_events rows (event rows p)) (codes "m.room.power_levels", []) ∙ sym k)
