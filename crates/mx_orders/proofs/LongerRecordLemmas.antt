-- The orders of events in a longer record.
use Rattle.std.proofs.Common.{◌≡◌, ◌<◌, ◌==◌, ℕ, zero, suc, Bool, true, false, cond, List, [], ◌∷◌, inl, inr, length, refl, sym, ap, subst, ◌∙◌, arith}
use Rattle.std.specs.Prelude.{pos, codes, find as first_where, position, Option, Some, None, IfSome, option_map, option_and_then, is_none, if◌then◌else◌}
use Rattle.std.specs.Ordering.{ordering_then, nat_cmp, int_cmp}
use Rattle.std.specs.Cmp.Lexicographic.{slice_cmp}
use Rattle.mx_redact.specs.Fields.{is_some_and}
use Rattle.mx_pdu.specs.Event.{sender_of, timestamp_of}
use Rattle.mx_levels.specs.Level.{user_level}
use Rattle.mx_pdu.specs.StateKeys.{Key}
use Rattle.mx_auth.specs.Rules.{key_of, same_key}
use Rattle.mx_graph.specs.Record.{Row, row, event, is_in, auth_events}
use Rattle.mx_graph.specs.Graph.{auth_chain}
use Rattle.mx_graph.proofs.Closure.{is_in-from}
use Rattle.mx_graph.proofs.Members.{In}
use Rattle.mx_graph.proofs.LongerRecordLemmas.{AreEvents, IsLonger, event-longer, auth_events-longer, auth_chain-longer}
use Rattle.mx_orders.specs.StateMap.{auth_event_at, view_by}
use Rattle.mx_orders.specs.PowerOrder.{sender_level, power_cmp, power_order}
use Rattle.mx_orders.specs.Mainline.{power_key, power_levels_of, mainline, mainline_position, mainline_cmp, mainline_order, position_cmp}
use Rattle.mx_orders.proofs.MainlineLemmas.{mainline-step}
use Rattle.mx_orders.proofs.SameOrderLemmas.{Agree, least_topological-same, sorted-all, sorted-same, topological-all}
use Rattle.mx_orders.proofs.StateLemmas.{sender_level-at}

-- ---- lists

find-same : (f g : ℕ → Bool) (xs : List ℕ) → ((x : ℕ) → In x xs → f x ≡ g x) → first_where f xs ≡ first_where g xs
find-same f g [] h = refl
find-same f g (x ∷ xs) h = λ i. cond (h x (inl refl) i) (Some x) (find-same f g xs (λ y m. h y (inr m)) i)

find-has : (P : ℕ → Type 0) (f : ℕ → Bool) (xs : List ℕ) → ((x : ℕ) → In x xs → P x) → IfSome (first_where f xs) P
find-has P f [] h = tt
find-has P f (x ∷ xs) h = by (f x) (find-has P f xs (λ y m. h y (inr m)))
  where
    by : (b : Bool) → IfSome (first_where f xs) P → IfSome (cond b (Some x) (first_where f xs)) P
    by true later = h x (inl refl)
    by false later = later

-- ---- events by their auth events

-- if there is one, it is an event of the record
abbrev pub IsEvent : List Row → Option ℕ → Type 0
IsEvent rows o = IfSome o (λ p. p < length rows)

module _ (rows longer : List Row) (l : IsLonger rows longer) where
  pub event_at-longer : (o : Option ℕ) → IsEvent rows o → option_map (event longer) o ≡ option_map (event rows) o
  event_at-longer None h = refl
  event_at-longer (Some p) h = ap Some (event-longer rows longer l p h)

  id_at-longer : (o : Option ℕ) → IsEvent rows o → option_map (λ p. (row longer p).id) o ≡ option_map (λ p. (row rows p).id) o
  id_at-longer None h = refl
  id_at-longer (Some p) h = ap (λ (r : Row). Some r.id) (l.same p h)

  -- what the authorization rules see of events that the record has
  pub view_by-longer : (at : Key → Option ℕ) → ((key : Key) → IsEvent rows (at key)) → view_by longer at ≡ view_by rows at
  view_by-longer at h = λ i. record {
    create_id = id_at-longer (at (codes "m.room.create", [])) (h (codes "m.room.create", [])) i;
    entry = λ kind key. event_at-longer (at (kind, key)) (h (kind, key)) i;
  }

  auth_events-known : (p : ℕ) → AreEvents rows (auth_events rows (event rows p))
  auth_events-known p x m = (l.sound.auth p x (is_in-from x (auth_events rows (event rows p)) m)).0

  pub auth_event_at-known : (p : ℕ) (key : Key) → IsEvent rows (auth_event_at rows (event rows p) key)
  auth_event_at-known p key = find-has (λ q. q < length rows) _ (auth_events rows (event rows p)) (auth_events-known p)

  auth_event_at-earlier : (p : ℕ) (key : Key) → IfSome (auth_event_at rows (event rows p) key) (λ q. q < p)
  auth_event_at-earlier p key = find-has (λ q. q < p) _ (auth_events rows (event rows p)) (λ x m. (l.sound.auth p x (is_in-from x (auth_events rows (event rows p)) m)).1)

  pub auth_event_at-longer : (p : ℕ) (key : Key) → p < length rows → auth_event_at longer (event longer p) key ≡ auth_event_at rows (event rows p) key
  auth_event_at-longer p key h =
      ap (first_where (λ q. is_some_and (same_key key) (key_of (event longer q)))) (auth_events-longer rows longer l p h)
      ∙ find-same (λ q. is_some_and (same_key key) (key_of (event longer q))) (λ q. is_some_and (same_key key) (key_of (event rows q))) (auth_events rows (event rows p))
      (λ q m. ap (λ e. is_some_and (same_key key) (key_of e)) (event-longer rows longer l q (auth_events-known p q m)))

  -- ---- levels

  abbrev create_at : ℕ → Option ℕ
  create_at p = auth_event_at rows (event rows p) (codes "m.room.create", [])

  abbrev levels_at : ℕ → Option ℕ
  levels_at p = auth_event_at rows (event rows p) power_key

  pub sender_level-longer : (p : ℕ) → p < length rows → sender_level longer p ≡ sender_level rows p
  sender_level-longer p h =
      sender_level-at longer p (create_at p) (levels_at p) (sym (auth_event_at-longer p (codes "m.room.create", []) h)) (sym (auth_event_at-longer p power_key h))
      ∙ (λ i. if is_none (create i) then pos 0 else user_level (create i) (levels i) (sender_of (event-longer rows longer l p h i)))
      ∙ sym (sender_level-at rows p (create_at p) (levels_at p) refl refl)
    where
      create : option_map (event longer) (create_at p) ≡ option_map (event rows) (create_at p)
      create = event_at-longer (create_at p) (auth_event_at-known p (codes "m.room.create", []))

      levels : option_map (event longer) (levels_at p) ≡ option_map (event rows) (levels_at p)
      levels = event_at-longer (levels_at p) (auth_event_at-known p power_key)

  -- ---- mainlines

  -- for each event of a place below n
  mainline-below : (n p : ℕ) → p < n → p < length rows → mainline longer (Some p) ≡ mainline rows (Some p)
  unfolding mainline
  mainline-below zero p k h = absurd (omega arith)
  mainline-below (suc n) p k h =
      mainline-step longer l.sound_longer p
      ∙ ap (λ w. p ∷ w) (ap (mainline longer) (auth_event_at-longer p power_key h) ∙ by (λ q j m. mainline-below n q j m) (levels_at p) known earlier)
      ∙ sym (mainline-step rows l.sound p)
    where
      known : IsEvent rows (levels_at p)
      known = auth_event_at-known p power_key

      earlier : IfSome (levels_at p) (λ q. q < p)
      earlier = auth_event_at-earlier p power_key

      by : ((q : ℕ) → q < n → q < length rows → mainline longer (Some q) ≡ mainline rows (Some q))
          → (o : Option ℕ) → IsEvent rows o → IfSome o (λ q. q < p) → mainline longer o ≡ mainline rows o
      by later None a b = refl
      by later (Some q) a b = later q (let c : q < p = b in omega arith) a

  pub mainline-longer : (o : Option ℕ) → IsEvent rows o → mainline longer o ≡ mainline rows o
  unfolding mainline
  mainline-longer None h = refl
  mainline-longer (Some p) h = mainline-below (suc p) p (omega arith) h

  power_levels_of-longer : (p : ℕ) → p < length rows → power_levels_of longer p ≡ power_levels_of rows p
  unfolding mainline
  power_levels_of-longer p h = ap rest (mainline-longer (Some p) h)
    where
      rest : List ℕ → List ℕ
      rest [] = []
      rest (x ∷ xs) = xs

  pub position-longer : (line : List ℕ) (p : ℕ) → p < length rows → mainline_position longer line p ≡ mainline_position rows line p
  unfolding mainline_position
  position-longer line p h = ap (λ w. option_and_then (λ q. position (λ x. x == q) line) (first_where (is_in line) w)) (power_levels_of-longer p h)

  -- ---- orders

  power_cmp-longer : Agree (λ p. p < length rows) (power_cmp longer) (power_cmp rows)
  power_cmp-longer x y h k = λ i.
      ordering_then (int_cmp (sender_level-longer y k i) (sender_level-longer x h i))
      (ordering_then (int_cmp (timestamp_of (event-longer rows longer l x h i)) (timestamp_of (event-longer rows longer l y k i))) (slice_cmp nat_cmp (l.same x h i).id (l.same y k i).id))

  mainline_cmp-longer : (line : List ℕ) → Agree (λ p. p < length rows) (mainline_cmp longer line) (mainline_cmp rows line)
  mainline_cmp-longer line x y h k = λ i.
      ordering_then (position_cmp (position-longer line x h i) (position-longer line y k i))
      (ordering_then (int_cmp (timestamp_of (event-longer rows longer l x h i)) (timestamp_of (event-longer rows longer l y k i))) (slice_cmp nat_cmp (l.same x h i).id (l.same y k i).id))

  before-longer : Agree (λ p. p < length rows) (λ x y. is_in (auth_chain longer (y ∷ [])) x) (λ x y. is_in (auth_chain rows (y ∷ [])) x)
  before-longer x y h k = ap (λ xs. is_in xs x) (auth_chain-longer rows longer l (y ∷ []) only)
    where
      only : AreEvents rows (y ∷ [])
      only z (inl e) = subst (λ w. w < length rows) (sym e) k
      only z (inr m) = absurd m

  pub power_order-longer : (xs : List ℕ) → AreEvents rows xs → power_order longer xs ≡ power_order rows xs
  unfolding power_order
  power_order-longer xs h =
      least_topological-same (λ p. p < length rows) (power_cmp longer) (power_cmp rows) power_cmp-longer
      (λ x y. is_in (auth_chain longer (y ∷ [])) x) (λ x y. is_in (auth_chain rows (y ∷ [])) x) before-longer xs h

  pub mainline_order-longer : (line xs : List ℕ) → AreEvents rows xs → mainline_order longer line xs ≡ mainline_order rows line xs
  unfolding mainline_order
  mainline_order-longer line xs h = sorted-same (λ p. p < length rows) (mainline_cmp longer line) (mainline_cmp rows line) (mainline_cmp-longer line) xs h

-- ---- an order has the events that it is given

pub power_order-events : (rows : List Row) (xs : List ℕ) → AreEvents rows xs → AreEvents rows (power_order rows xs)
unfolding power_order
power_order-events rows xs h = topological-all (λ p. p < length rows) (power_cmp rows) (λ x y. is_in (auth_chain rows (y ∷ [])) x) xs h

pub mainline_order-events : (rows : List Row) (line xs : List ℕ) → AreEvents rows xs → AreEvents rows (mainline_order rows line xs)
unfolding mainline_order
mainline_order-events rows line xs h = sorted-all (λ p. p < length rows) (mainline_cmp rows line) xs h
