-- What is kept of a resolution that was worked out from nothing.
use Rattle.std.proofs.Common.{◌≡◌, ◌<◌, ℕ, true, List, [], ◌∷◌, map, length, slice_index_or, None, inl, inr, refl, sym, ap, subst, ◌∙◌, arith}
use Rattle.std.specs.List.{All}
use Rattle.std.specs.Prelude.{is_some}
use Rattle.std.proofs.lemmas.List.Elements.{All-cons, All-nil}
use Rattle.mx_pdu.specs.StateKeys.{Key}
use Rattle.mx_auth.specs.declared.versions.RoomVersion.{RoomVersion}
use Rattle.mx_graph.specs.Record.{Row, is_in}
use Rattle.mx_graph.proofs.Closure.{is_in-from, is_in-to}
use Rattle.mx_graph.proofs.Members.{In}
use Rattle.mx_graph.specs.StateMap.{State, entry}
use Rattle.mx_orders.specs.Mainline.{mainline, mainline_order, power_key}
use Rattle.mx_state_res.specs.Numbered.{AreKnown}
use Rattle.mx_states.specs.Numbered.{IsDiffering, state_at, without}
use Rattle.mx_state_res.specs.Resolution.{full_conflicted, power_events, resolve, unconflicted}
use Rattle.mx_state_res.specs.LaterResolution.{agreed_line, checking_order}
use Rattle.mx_state_res.specs.KeptResolutions.{AreChecked, AreSettled, DifferAtKeys, IsKept, events_checked, is_settled, states_of}
use Rattle.mx_state_res.specs.TouchedKeys.{HasKeysOf}
use Rattle.mx_state_res.specs.declared.kept_resolutions.KeptResolution.{KeptResolution}
use Rattle.mx_state_res.specs.declared.kept_resolutions.checked_events.CheckedEvent.{CheckedEvent}
use Rattle.mx_states.proofs.KeyLemmas.{Sorted}
use Rattle.mx_state_res.proofs.KeptGrowthLemmas.{each-known}
use Rattle.mx_state_res.proofs.LaterOrderLemmas.{distinct-full, order-members}
use Rattle.mx_state_res.proofs.NumberedConflictLemmas.{at-sorted, unconflicted-is}
use Rattle.mx_state_res.proofs.SetLemmas.{all-at}

pub all-events : (P : ℕ → Type 0) (cs : List CheckedEvent) → ((p : ℕ) → In p (events_checked cs) → P p) → All (λ (c : CheckedEvent). P c.event) cs
all-events P [] h = All-nil (λ (c : CheckedEvent). P c.event)
all-events P (c ∷ cs) h = All-cons (λ (d : CheckedEvent). P d.event) c cs (h c.event (inl refl)) (all-events P cs (λ p m. h p (inr m)))

nothing-there : (d : State) (key : Key) → is_some (entry d key) ≡ true → entry d key ≡ None → ⊥
nothing-there d key e none = cc (sym (ap is_some none) ∙ e)

module _ (v : RoomVersion) (rows : List Row) (states : List State) (base : ℕ) (others numbers : List ℕ) (are : numbers ≡ base ∷ others) (below : All (λ n. n < length states) numbers) (all_known : AreKnown rows states)
    (sorted : All (λ n. Sorted (state_at states n)) numbers) (d : State) (ordered : Sorted d) (differing : IsDiffering d (map (state_at states) numbers)) (key : Key) (there : is_some (entry d key) ≡ true)
    (full : List ℕ) (is_full : full ≡ full_conflicted rows (map (state_at states) numbers)) (known : All (λ p. p < length rows) full) (no_power : power_events rows full ≡ []) where
  abbrev ss : List State
  ss = map (state_at states) numbers

  agreed-is : unconflicted ss ≡ without d (state_at states base)
  agreed-is =
      ap (λ ns. unconflicted (map (state_at states) ns)) are
      ∙ sym (unconflicted-is d (state_at states base) (map (state_at states) others) ordered
      (at-sorted (state_at states) (base ∷ others) (subst (All (λ n. Sorted (state_at states n))) are sorted)) (subst (λ ns. IsDiffering d (map (state_at states) ns)) are differing))

  module _ (kept : KeptResolution) (items : kept.numbers.items ≡ numbers) (same : kept.differing ≡ d)
      (order : events_checked kept.order.items ≡ mainline_order rows (mainline rows (entry (without d (state_at states base)) power_key)) full)
      (checked : AreChecked v rows (without d (state_at states base)) kept.order.items) (settled : kept.are_settled ≡ true → All (λ p. is_settled rows d (state_at states base) p ≡ true) full) (touched : All (HasKeysOf v rows kept.touched) kept.order.items) (lower : kept.resolved < length states) (resolved : state_at states kept.resolved ≡ resolve v rows ss) where
    order-is : events_checked kept.order.items ≡ checking_order rows ss
    order-is = order ∙ (λ i. mainline_order rows (mainline rows (entry (sym agreed-is i) power_key)) (is_full i))

    within : (p : ℕ) → In p (events_checked kept.order.items) → In p full
    within p m =
        is_in-to p full (ap (λ ps. is_in ps p) is_full ∙ sym (order-members rows (agreed_line rows ss) (full_conflicted rows ss) (distinct-full rows ss) p)
        ∙ ap (λ ps. is_in ps p) (sym order-is) ∙ is_in-from p (events_checked kept.order.items) m)

    at-keys : DifferAtKeys rows ss (state_at states base) kept
    at-keys = record {
      key = key;
      there = ap (λ t. is_some (entry t key)) same ∙ there;
      apart = λ q is a. nothing-there d q (ap (λ t. is_some (entry t q)) (sym same) ∙ is) ((differing q).1 a);
      agreed = agreed-is ∙ ap (λ t. without t (state_at states base)) (sym same);
      order = order-is;
      known = all-events (λ p. p < length rows) kept.order.items (λ p m. all-at (λ p. p < length rows) full known p (within p m));
      settled = λ h. subst (λ t. AreSettled rows t (state_at states base) kept.order.items) (sym same)
          (all-events (λ p. is_settled rows d (state_at states base) p ≡ true) kept.order.items (λ p m. all-at (λ p. is_settled rows d (state_at states base) p ≡ true) full (settled h) p (within p m)));
      no_powers = ap (power_events rows) (sym is_full) ∙ no_power;
    }

    first-is : state_at states base ≡ state_at states (slice_index_or kept.numbers.items 0 0)
    first-is = ap (λ ns. state_at states (slice_index_or ns 0 0)) (sym are ∙ sym items)

    states-are : ss ≡ states_of states kept
    states-are = ap (map (state_at states)) (sym items)

    pub first-record : IsKept v rows states kept
    first-record = record {
      numbers = subst (All (λ n. n < length states)) (sym items) below;
      some = (let l : length kept.numbers.items ≡ length (base ∷ others) = ap length (items ∙ are) in omega arith);
      known = subst (AreKnown rows) states-are (each-known rows states numbers all_known below);
      at_keys = subst (λ ts. DifferAtKeys rows ts (state_at states (slice_index_or kept.numbers.items 0 0)) kept) states-are (subst (λ b. DifferAtKeys rows ss b kept) first-is at-keys);
      checked = subst (λ ts. AreChecked v rows (unconflicted ts) kept.order.items) states-are (subst (λ t. AreChecked v rows t kept.order.items) (sym agreed-is) checked);
      touched = touched;
      below = lower;
      resolved = resolved ∙ ap (resolve v rows) states-are;
    }
