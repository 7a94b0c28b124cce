-- An event is judged alike in states that differ at a key that the rules do not look at.
use Rattle.std.proofs.Common.{◌≡◌, ℕ, Bool, true, false, ◌&&◌, ◌||◌, List, [], ◌∷◌, Option, Some, refl, sym, ap, subst, ◌∙◌}
use Rattle.std.specs.Prelude.{codes, is_none, option_map}
use Rattle.std.specs.Option.{option_or}
use Rattle.std.specs.List.{list_any}
use Rattle.std.specs.Ordering.{is_eq}
use Rattle.std.specs.FinMap.Entries.{put}
use Rattle.mx_pdu.specs.Event.{is_state}
use Rattle.mx_auth.specs.Rules.{AgreeAt, key_of, needed_keys, same_key}
use Rattle.mx_pdu.specs.StateKeys.{Key}
use Rattle.mx_auth.specs.declared.versions.RoomVersion.{RoomVersion}
use Rattle.mx_auth.proofs.NeededKeyLemmas.{rules-needed_keys}
use Rattle.mx_graph.specs.Record.{Row, event, row}
use Rattle.mx_graph.specs.StateMap.{State, entry, key_cmp}
use Rattle.mx_orders.specs.StateMap.{view_by, with_event}
use Rattle.mx_redact.specs.Fields.{Event, is_some_and}
use Rattle.mx_state_res.specs.KeptResolutions.{AreChecked, IsOutcome, events_checked, put_outcome}
use Rattle.mx_state_res.specs.LaterResolution.{is_put, stays}
use Rattle.mx_state_res.specs.Resolution.{is_allowed, judged_in, usable_auth_event}
use Rattle.mx_state_res.specs.declared.kept_resolutions.checked_events.CheckedEvent.{CheckedEvent}
use Rattle.mx_states.proofs.EntryLemmas.{equal-keys}
use Rattle.mx_states.proofs.KeyLemmas.{Sorted}
use Rattle.mx_state_res.proofs.KeptResolutionLemmas.{goes-on, same-itself}
use Rattle.mx_state_res.proofs.LaterStateLemmas.{put-elsewhere}
use Rattle.std.specs.Prelude.{if◌then◌else◌}

none-of : (a b : Bool) → (a || b) ≡ false → (a ≡ false) × (b ≡ false)
none-of true b e = absurd (cc e)
none-of false b e = (refl, e)

apart : (key q : Key) → same_key key q ≡ false → is_eq (key_cmp q key) ≡ false
apart key q n = by (is_eq (key_cmp q key)) refl
  where
    by : (b : Bool) → is_eq (key_cmp q key) ≡ b → is_eq (key_cmp q key) ≡ false
    by false c = c
    by true c = absurd (cc (sym (same-itself key) ∙ ap (same_key key) (sym (equal-keys q key c)) ∙ n))

agree-elsewhere : (rows : List Row) (f g : Key → Option ℕ) (key : Key) → ((q : Key) → same_key key q ≡ false → f q ≡ g q) → (ks : List Key) → list_any (same_key key) ks ≡ false → AgreeAt ks (view_by rows f) (view_by rows g)
agree-elsewhere rows f g key h [] n = tt
agree-elsewhere rows f g key h (k ∷ ks) n =
    let r = none-of (same_key key k) (list_any (same_key key) ks) n in
    (ap (option_map (event rows)) (h k r.0), agree-elsewhere rows f g key h ks r.1)

module _ (v : RoomVersion) (rows : List Row) (key : Key) (not_create : same_key key (codes "m.room.create", []) ≡ false) where
  pub is_put-unneeded : (p : ℕ) → list_any (same_key key) (needed_keys v (event rows p)) ≡ false → (x : ℕ) (s : State) → is_put v rows (put key_cmp key x s) p ≡ is_put v rows s p
  unfolding is_allowed
  is_put-unneeded p none x s =
      ap (λ r. is_state e && is_none r)
      (rules-needed_keys v e (judged_in v rows (put key_cmp key x s) e) (judged_in v rows s e) (ap (option_map (λ n. (row rows n).id)) (elsewhere (codes "m.room.create", []) not_create))
      (agree-elsewhere rows (λ q. option_or (entry (put key_cmp key x s) q) (usable_auth_event v rows e q)) (λ q. option_or (entry s q) (usable_auth_event v rows e q)) key elsewhere (needed_keys v e) none))
    where
      e : Event
      e = event rows p

      elsewhere : (q : Key) → same_key key q ≡ false → option_or (entry (put key_cmp key x s) q) (usable_auth_event v rows e q) ≡ option_or (entry s q) (usable_auth_event v rows e q)
      elsewhere q o = ap (λ t. option_or t (usable_auth_event v rows e q)) (put-elsewhere key x s q (apart key q o))

-- what is left of the events, where the first does not need the key and is not put at it
module _ (v : RoomVersion) (rows : List Row) (key : Key) (x : ℕ) where
  pub left-unneeded : (s : State) (c : CheckedEvent) (cs all : List CheckedEvent) → all ≡ c ∷ cs → Sorted s → is_put v rows (put key_cmp key x s) c.event ≡ is_put v rows s c.event
      → (c.is_put && is_some_and (same_key key) (key_of (event rows c.event))) ≡ false → AreChecked v rows s all
      → (t : State) × (Sorted t × (AreChecked v rows t cs × (stays v rows key x s (events_checked all) ≡ stays v rows key x t (events_checked cs))))
  left-unneeded s c cs all are sorted alike other h =
      let here : c.is_put ≡ is_put v rows s c.event = (subst (AreChecked v rows s) are h).0 in
      let n = goes-on v rows key x s (if c.is_put then with_event (put key_cmp key x s) (event rows c.event) c.event else put key_cmp key x s) c cs all are sorted (alike ∙ sym here) other refl h in
      (n.0, (n.1.1.0, (n.1.1.1.0, n.1.1.1.1)))

pub outcome-put : (v : RoomVersion) (rows : List Row) (key : Key) (x : ℕ) (s : State) (after : List ℕ) (b : Bool) → is_put v rows s x ≡ true → stays v rows key x s after ≡ Some b → IsOutcome v rows key x s after (put_outcome b)
outcome-put v rows key x s after true h e = (h, e)
outcome-put v rows key x s after false h e = (h, e)
