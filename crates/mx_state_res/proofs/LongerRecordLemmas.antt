-- What states resolve to stays when rows are added behind.
use Rattle.std.proofs.Common.{◌≡◌, ◌<◌, ℕ, Bool, true, false, not, ◌&&◌, ◌||◌, ◌⊎◌, List, [], ◌∷◌, ◌++◌, inl, inr, filter, flat_map, map, length, refl, sym, ap, ap₂, subst, ◌∙◌}
use Rattle.std.specs.Prelude.{Option, Some, None, option_map, option_and_then, is_none, if◌then◌else◌, unwrap_or}
use Rattle.std.specs.Option.{option_or}
use Rattle.std.specs.List.{All, list_any, list_all}
use Rattle.std.specs.FinMap.Entries.{put}
use Rattle.mx_pdu.specs.Event.{is_state}
use Rattle.mx_pdu.specs.StateKeys.{Key}
use Rattle.mx_auth.specs.Rules.{key_of, same_key, needed_keys, rules}
use Rattle.mx_auth.specs.declared.versions.RoomVersion.{RoomVersion}
use Rattle.mx_graph.specs.Record.{Row, row, event, is_in, events_where}
use Rattle.mx_graph.specs.Graph.{IsSound, auth_chain}
use Rattle.mx_graph.proofs.Closure.{is_in-to, or_cases, same_tests}
use Rattle.mx_graph.proofs.Members.{In, in_filter-parts, in_flat_map-from}
use Rattle.mx_graph.proofs.LongerRecordLemmas.{AreEvents, IsLonger, longer-push, longer-prefix, event-longer, where-longer, auth_chain-known, auth_chain-longer}
use Rattle.mx_graph.specs.StateMap.{State, key_cmp, entry, events_of}
use Rattle.mx_orders.specs.StateMap.{with_event, view_by, auth_event_at}
use Rattle.mx_orders.specs.PowerOrder.{power_order}
use Rattle.mx_orders.specs.Mainline.{power_key, mainline, mainline_order}
use Rattle.mx_orders.proofs.Members.{in_map-from}
use Rattle.mx_orders.proofs.LongerRecordLemmas.{IsEvent, view_by-longer, auth_event_at-known, auth_event_at-longer, mainline-longer, power_order-longer, mainline_order-longer, power_order-events, mainline_order-events}
use Rattle.mx_state_res.specs.Numbered.{AreKnown}
use Rattle.mx_state_res.specs.Resolution.{in_every, unconflicted, conflicted, auth_difference, full_conflicted, usable_auth_event, judged_in, is_allowed, after_check, iterative_auth_checks, is_power_event, power_events, resolve}
use Rattle.mx_state_res.proofs.ConflictLemmas.{full-known}
use Rattle.mx_states.proofs.KnownLemmas.{find-known, put-known}
use Rattle.mx_state_res.proofs.OrderLemmas.{checked-is, overwritten-known, resolve-is}
use Rattle.mx_state_res.proofs.SetLemmas.{all-at, all-of, where-known}
use Rattle.mx_state_res.proofs.TestLemmas.{and-first}

-- ---- each step keeps to the events of the record

module _ (rows : List Row) where
  -- the events of a state are events of the record
  abbrev pub IsKnown : State → Type 0
  IsKnown s = All (λ e. e.1 < length rows) s

  state-events : (s : State) → IsKnown s → AreEvents rows (events_of s)
  state-events s known p m =
      let r = in_map-from (λ (e : Key × ℕ). e.1) p s m in
      subst (λ q. q < length rows) (sym r.2) (all-at (λ (e : Key × ℕ). e.1 < length rows) s known r.0 r.1)

  each-known : (states : List State) → AreKnown rows states → (s : State) → In s states → IsKnown s
  each-known states known s m = all-at (λ s. IsKnown s) states known s m

  pub unconflicted-known : (states : List State) → AreKnown rows states → IsKnown (unconflicted states)
  unfolding unconflicted
  unconflicted-known [] known = all-of (λ e. e.1 < length rows) [] (λ e m. absurd m)
  unconflicted-known (s ∷ states) known =
      all-of (λ e. e.1 < length rows) (filter (in_every states) s)
      (λ e m. all-at (λ e. e.1 < length rows) s (each-known (s ∷ states) known s (inl refl)) e (in_filter-parts (in_every states) e s m).0)

  pub full-events : (states : List State) → AreEvents rows (full_conflicted rows states)
  full-events states p m = all-at (λ p. p < length rows) (full_conflicted rows states) (full-known rows states) p m

  power_events-events : (full : List ℕ) → AreEvents rows full → AreEvents rows (power_events rows full)
  unfolding power_events
  power_events-events full h p m = h p (in_filter-parts _ p full m).0

  with-known : (s : State) (o : Option Key) (p : ℕ) → IsKnown s → p < length rows → IsKnown (unwrap_or (option_map (λ key. put key_cmp key p s) o) s)
  with-known s None p known h = known
  with-known s (Some key) p known h = put-known key_cmp (λ q. q < length rows) key p s h known

  pub after_check-known : (v : RoomVersion) (s : State) (p : ℕ) → IsKnown s → p < length rows → IsKnown (after_check v rows s p)
  unfolding after_check
  after_check-known v s p known h = by (is_state (event rows p) && is_allowed v rows s (event rows p))
    where
      by : (b : Bool) → IsKnown (if b then with_event s (event rows p) p else s)
      by true = with-known s (key_of (event rows p)) p known h
      by false = known

  checks-known : (v : RoomVersion) (s : State) (events : List ℕ) → IsKnown s → AreEvents rows events → IsKnown (iterative_auth_checks v rows s events)
  checks-known v s [] known h = known
  checks-known v s (p ∷ ps) known h = checks-known v (after_check v rows s p) ps (after_check-known v s p known (h p (inl refl))) (λ q m. h q (inr m))

  pub resolve-known : (v : RoomVersion) (states : List State) → AreKnown rows states → IsKnown (resolve v rows states)
  unfolding resolve
  resolve-known v states known =
      overwritten-known (length rows) (iterative_auth_checks v rows partial rest) agreed
      (checks-known v partial rest partial-known (mainline_order-events rows (mainline rows (entry partial power_key)) others others-are))
      (λ e m. all-at (λ e. e.1 < length rows) agreed (unconflicted-known states known) e m)
    where
      agreed : State
      agreed = unconflicted states

      full : List ℕ
      full = full_conflicted rows states

      power : List ℕ
      power = power_events rows full

      others : List ℕ
      others = filter (λ p. not (is_in power p)) full

      partial : State
      partial = iterative_auth_checks v rows agreed (power_order rows power)

      rest : List ℕ
      rest = mainline_order rows (mainline rows (entry partial power_key)) others

      others-are : AreEvents rows others
      others-are p m = full-events states p (in_filter-parts (λ p. not (is_in power p)) p full m).0

      partial-known : IsKnown partial
      partial-known = checks-known v agreed (power_order rows power) (unconflicted-known states known) (power_order-events rows power (power_events-events full (full-events states)))

-- ---- in a longer record

module _ (rows longer : List Row) (l : IsLonger rows longer) where
  -- ---- the state in which an event is judged

  abbrev unless_rejected : List Row → ℕ → Option ℕ
  unless_rejected rs q = if (row rs q).rejected then None else Some q

  unless_rejected-longer : (o : Option ℕ) → IsEvent rows o → option_and_then (unless_rejected longer) o ≡ option_and_then (unless_rejected rows) o
  unless_rejected-longer None h = refl
  unless_rejected-longer (Some q) h = ap (λ (r : Row). if r.rejected then None else Some q) (l.same q h)

  usable-longer : (v : RoomVersion) (p : ℕ) (key : Key) → p < length rows → usable_auth_event v longer (event longer p) key ≡ usable_auth_event v rows (event rows p) key
  usable-longer v p key h = λ i. if list_any (same_key key) (needed_keys v (event-longer rows longer l p h i)) then found i else None
    where
      found : option_and_then (unless_rejected longer) (auth_event_at longer (event longer p) key) ≡ option_and_then (unless_rejected rows) (auth_event_at rows (event rows p) key)
      found =
          ap (option_and_then (unless_rejected longer)) (auth_event_at-longer rows longer l p key h)
          ∙ unless_rejected-longer (auth_event_at rows (event rows p) key) (auth_event_at-known rows longer l p key)

  usable-known : (v : RoomVersion) (p : ℕ) (key : Key) → IsEvent rows (usable_auth_event v rows (event rows p) key)
  usable-known v p key = by (list_any (same_key key) (needed_keys v (event rows p))) (auth_event_at rows (event rows p) key) (auth_event_at-known rows longer l p key)
    where
      kept : (b : Bool) (q : ℕ) → q < length rows → IsEvent rows (if b then None else Some q)
      kept true q h = tt
      kept false q h = h

      by : (b : Bool) (o : Option ℕ) → IsEvent rows o → IsEvent rows (if b then option_and_then (unless_rejected rows) o else None)
      by true None h = tt
      by true (Some q) h = kept (row rows q).rejected q h
      by false o h = tt

  either-known : (a b : Option ℕ) → IsEvent rows a → IsEvent rows b → IsEvent rows (option_or a b)
  either-known None b h k = k
  either-known (Some p) b h k = h

  pub judged_in-longer : (v : RoomVersion) (s : State) (p : ℕ) → IsKnown rows s → p < length rows → judged_in v longer s (event longer p) ≡ judged_in v rows s (event rows p)
  judged_in-longer v s p known h =
      ap (view_by longer) (λ i key. option_or (entry s key) (usable-longer v p key h i))
      ∙ view_by-longer rows longer l (λ key. option_or (entry s key) (usable_auth_event v rows (event rows p) key))
      (λ key. either-known (entry s key) (usable_auth_event v rows (event rows p) key) (find-known key_cmp (λ q. q < length rows) key s known) (usable-known v p key))

  -- ---- iterative auth checks

  pub after_check-longer : (v : RoomVersion) (s : State) (p : ℕ) → IsKnown rows s → p < length rows → after_check v longer s p ≡ after_check v rows s p
  unfolding after_check is_allowed
  after_check-longer v s p known h = λ i.
      if is_state (event-longer rows longer l p h i) && is_none (rules v (event-longer rows longer l p h i) (judged_in-longer v s p known h i))
      then with_event s (event-longer rows longer l p h i) p else s

  checks-longer : (v : RoomVersion) (s : State) (events : List ℕ) → IsKnown rows s → AreEvents rows events → iterative_auth_checks v longer s events ≡ iterative_auth_checks v rows s events
  checks-longer v s [] known h = refl
  checks-longer v s (p ∷ ps) known h =
      ap (λ t. iterative_auth_checks v longer t ps) (after_check-longer v s p known (h p (inl refl)))
      ∙ checks-longer v (after_check v rows s p) ps (after_check-known rows v s p known (h p (inl refl))) (λ q m. h q (inr m))

  -- ---- the full conflicted set

  conflicted-longer : (states : List State) → AreKnown rows states → conflicted longer states ≡ conflicted rows states
  unfolding conflicted
  conflicted-longer states known = where-longer rows longer l (is_in (events_of others)) (λ p e. state-events rows others others-known p (is_in-to p (events_of others) e))
    where
      others : State
      others = flat_map (filter (λ e. not (in_every states e))) states

      others-known : IsKnown rows others
      others-known = all-of (λ e. e.1 < length rows) others (λ e m.
          let r = in_flat_map-from (filter (λ e. not (in_every states e))) e states m in
          all-at (λ e. e.1 < length rows) r.0 (each-known rows states known r.0 r.1) e (in_filter-parts (λ e. not (in_every states e)) e r.0 r.2).0)

  chains-longer : (states : List State) → AreKnown rows states → map (λ s. auth_chain longer (events_of s)) states ≡ map (λ s. auth_chain rows (events_of s)) states
  chains-longer [] known = refl
  chains-longer (s ∷ states) known =
      ap₂ (λ c cs. c ∷ cs) (auth_chain-longer rows longer l (events_of s) (state-events rows s (each-known rows (s ∷ states) known s (inl refl))))
      (chains-longer states (all-of (λ t. IsKnown rows t) states (λ t m. each-known rows (s ∷ states) known t (inr m))))

  -- the event is in the auth chain of one of the states
  abbrev in_some : List State → ℕ → Bool
  in_some ss p = list_any (λ chain. is_in chain p) (map (λ s. auth_chain rows (events_of s)) ss)

  auth_difference-longer : (states : List State) → AreKnown rows states → auth_difference longer states ≡ auth_difference rows states
  unfolding auth_difference
  auth_difference-longer states known =
      ap (λ chains. events_where longer (λ p. list_any (λ chain. is_in chain p) chains && not (list_all (λ chain. is_in chain p) chains))) (chains-longer states known)
      ∙ where-longer rows longer l
      (λ p. list_any (λ chain. is_in chain p) (map (λ s. auth_chain rows (events_of s)) states) && not (list_all (λ chain. is_in chain p) (map (λ s. auth_chain rows (events_of s)) states)))
      (λ p e. chains-known states p (and-first (list_any (λ chain. is_in chain p) (map (λ s. auth_chain rows (events_of s)) states)) _ e))
    where
      chains-known : (ss : List State) (p : ℕ) → in_some ss p ≡ true → p < length rows
      chains-known [] p e = absurd (cc e)
      chains-known (s ∷ ss) p e = by (chains-known ss p) (or_cases (is_in (auth_chain rows (events_of s)) p) _ e)
        where
          by : (in_some ss p ≡ true → p < length rows) → (is_in (auth_chain rows (events_of s)) p ≡ true) ⊎ (in_some ss p ≡ true) → p < length rows
          by later (inl k) = auth_chain-known rows longer l (events_of s) p k
          by later (inr k) = later k

  set-known : (states : List State) (p : ℕ) → (is_in (conflicted rows states) p ≡ true) ⊎ (is_in (auth_difference rows states) p ≡ true) → p < length rows
  unfolding conflicted auth_difference
  set-known states p (inl e) = where-known rows _ p e
  set-known states p (inr e) = where-known rows _ p e

  pub full-longer : (states : List State) → AreKnown rows states → full_conflicted longer states ≡ full_conflicted rows states
  unfolding full_conflicted
  full-longer states known =
      ap₂ (λ xs ys. events_where longer (λ p. is_in xs p || is_in ys p)) (conflicted-longer states known) (auth_difference-longer states known)
      ∙ where-longer rows longer l (λ p. is_in (conflicted rows states) p || is_in (auth_difference rows states) p)
      (λ p e. set-known states p (or_cases (is_in (conflicted rows states) p) _ e))

  -- ---- the events of the two orders

  pub power_events-longer : (full : List ℕ) → AreEvents rows full → power_events longer full ≡ power_events rows full
  unfolding power_events
  power_events-longer full h =
      ap (λ xs. filter (λ p. is_in xs p || is_in (auth_chain longer xs) p) full) power-is
      ∙ ap (λ chain. filter (λ p. is_in power p || is_in chain p) full) (auth_chain-longer rows longer l power (λ p m. h p (in_filter-parts (λ p. is_power_event (event rows p)) p full m).0))
    where
      power : List ℕ
      power = filter (λ p. is_power_event (event rows p)) full

      power-is : filter (λ p. is_power_event (event longer p)) full ≡ power
      power-is = same_tests (λ p. is_power_event (event longer p)) (λ p. is_power_event (event rows p)) full (λ p m. ap is_power_event (event-longer rows longer l p (h p m)))

  -- ---- the resolution

  module _ (v : RoomVersion) (states : List State) (known : AreKnown rows states) where
    abbrev agreed : State
    agreed = unconflicted states

    abbrev full : List ℕ
    full = full_conflicted longer states

    abbrev power : List ℕ
    power = power_events longer full

    abbrev others : List ℕ
    others = filter (λ p. not (is_in power p)) full

    abbrev order : List ℕ
    order = power_order longer power

    abbrev partial : State
    partial = iterative_auth_checks v longer agreed order

    abbrev line : List ℕ
    line = mainline longer (entry partial power_key)

    abbrev rest : List ℕ
    rest = mainline_order longer line others

    full-are : AreEvents rows full
    full-are = subst (AreEvents rows) (sym (full-longer states known)) (full-events rows states)

    power-is : power ≡ power_events rows full
    power-is = power_events-longer full full-are

    power-are : AreEvents rows power
    power-are = subst (AreEvents rows) (sym power-is) (power_events-events rows full full-are)

    order-is : order ≡ power_order rows power
    order-is = power_order-longer rows longer l power power-are

    order-are : AreEvents rows order
    order-are = subst (AreEvents rows) (sym order-is) (power_order-events rows power power-are)

    partial-is : partial ≡ iterative_auth_checks v rows agreed order
    partial-is = checks-longer v agreed order (unconflicted-known rows states known) order-are

    partial-known : IsKnown rows partial
    partial-known = subst (IsKnown rows) (sym partial-is) (checks-known rows v agreed order (unconflicted-known rows states known) order-are)

    others-are : AreEvents rows others
    others-are p m = full-are p (in_filter-parts (λ p. not (is_in power p)) p full m).0

    line-is : line ≡ mainline rows (entry partial power_key)
    line-is = mainline-longer rows longer l (entry partial power_key) (find-known key_cmp (λ p. p < length rows) power_key partial partial-known)

    rest-is : rest ≡ mainline_order rows line others
    rest-is = mainline_order-longer rows longer l line others others-are

    rest-are : AreEvents rows rest
    rest-are = subst (AreEvents rows) (sym rest-is) (mainline_order-events rows line others others-are)

    pub resolve-in_longer : resolve v longer states ≡ resolve v rows states
    unfolding resolve
    resolve-in_longer =
        resolve-is v rows states agreed full (iterative_auth_checks v longer partial rest) (resolve v longer states) refl (full-longer states known)
        (checked-is v rows agreed full power others order partial line rest (iterative_auth_checks v longer partial rest) power-is refl order-is partial-is line-is rest-is (checks-longer v partial rest partial-known rest-are)) refl

-- a row that is added behind changes nothing
pub resolve-longer : (v : RoomVersion) (rows : List Row) (r : Row) (states : List State) → IsSound rows → IsSound (rows ++ r ∷ []) → AreKnown rows states
    → resolve v (rows ++ r ∷ []) states ≡ resolve v rows states
resolve-longer v rows r states sound after known = resolve-in_longer rows (rows ++ r ∷ []) (longer-push rows r sound after) v states known

-- nor do several rows
pub resolve-prefix : (v : RoomVersion) (rows more : List Row) (states : List State) → IsSound (rows ++ more) → AreKnown rows states → resolve v (rows ++ more) states ≡ resolve v rows states
resolve-prefix v rows more states sound known = resolve-in_longer rows (rows ++ more) (longer-prefix rows more sound) v states known
