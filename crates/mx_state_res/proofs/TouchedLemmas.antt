-- The keys of events that were checked.
use Rattle.std.proofs.Common.{◌≡◌, ◌<◌, ◌&&◌, ◌||◌, ◌⊎◌, inl, inr, ℕ, Bool, true, false, List, [], ◌∷◌, ◌++◌, length, take, drop, get_or, Option, Some, None, refl, sym, ap, subst, ◌∙◌}
use Rattle.std.specs.Prelude.{is_some}
use Rattle.std.specs.List.{All, list_any}
use Rattle.std.specs.Ordering.{is_eq}
use Rattle.std.specs.FinMap.Entries.{put}
use Rattle.std.proofs.lemmas.List.Elements.{All-append, All-cons, All-drop, All-head, All-tail, All-take}
use Rattle.mx_redact.specs.Fields.{is_some_and}
use Rattle.mx_pdu.specs.StateKeys.{Key}
use Rattle.mx_auth.specs.Rules.{key_of, needed_keys, same_key}
use Rattle.mx_auth.specs.declared.versions.RoomVersion.{RoomVersion}
use Rattle.mx_graph.specs.Record.{Row, event}
use Rattle.mx_graph.proofs.LongerRecordLemmas.{IsLonger, event-longer}
use Rattle.mx_graph.proofs.Closure.{or_cases}
use Rattle.mx_graph.specs.StateMap.{State, entry, key_cmp}
use Rattle.mx_state_res.specs.TouchedKeys.{HasKeysOf, HasNeededKeys, HasPutKey, checked_event, is_needed_by, is_put_at}
use Rattle.mx_state_res.specs.declared.kept_resolutions.checked_events.CheckedEvent.{CheckedEvent}
use Rattle.mx_state_res.specs.declared.kept_resolutions.touched_keys.TouchedKeys.{TouchedKeys}
use Rattle.mx_states.proofs.EntryLemmas.{equal-keys}
use Rattle.mx_state_res.proofs.KeptResolutionLemmas.{at-key}
use Rattle.mx_state_res.proofs.LaterStateLemmas.{put-elsewhere, put-there}
use Rattle.mx_state_res.proofs.TestLemmas.{and-first, and-second}

pub has-put : (key : Key) (x : ℕ) (s : State) (q : Key) → is_some (entry s q) ≡ true → is_some (entry (put key_cmp key x s) q) ≡ true
has-put key x s q e = by (is_eq (key_cmp q key)) refl
  where
    by : (b : Bool) → is_eq (key_cmp q key) ≡ b → is_some (entry (put key_cmp key x s) q) ≡ true
    by true c = ap is_some (ap (entry (put key_cmp key x s)) (equal-keys q key c) ∙ put-there key x s)
    by false c = ap is_some (put-elsewhere key x s q c) ∙ e

pub has-there : (key : Key) (x : ℕ) (s : State) → is_some (entry (put key_cmp key x s) key) ≡ true
has-there key x s = ap is_some (put-there key x s)

pub now-there : (key : Key) (x : ℕ) (s t : State) → t ≡ put key_cmp key x s → is_some (entry t key) ≡ true
now-there key x s t e = ap (λ u. is_some (entry u key)) e ∙ has-there key x s

pub still-there : (key : Key) (x : ℕ) (s t : State) → t ≡ put key_cmp key x s → (q : Key) → is_some (entry s q) ≡ true → is_some (entry t q) ≡ true
still-there key x s t e q h = ap (λ u. is_some (entry u q)) e ∙ has-put key x s q h

-- ---- the key at which an event was put

pub not-put : (rows : List Row) (s : State) (p : ℕ) (b : Bool) → b ≡ false → HasPutKey rows s (checked_event p b)
not-put rows s p b e = λ key h. absurd (cc (sym e ∙ and-first b (is_some_and (same_key key) (key_of (event rows p))) h))

pub no-key : (rows : List Row) (s : State) (p : ℕ) (b : Bool) → key_of (event rows p) ≡ None → HasPutKey rows s (checked_event p b)
no-key rows s p b none = λ key h. absurd (cc (sym (ap (is_some_and (same_key key)) none) ∙ and-second b (is_some_and (same_key key) (key_of (event rows p))) h))

pub put-key : (rows : List Row) (s : State) (p : ℕ) (b : Bool) (own : Key) (x : ℕ) → key_of (event rows p) ≡ Some own → HasPutKey rows (put key_cmp own x s) (checked_event p b)
put-key rows s p b own x is = λ key h.
    let there : key_of (event rows p) ≡ Some key = at-key key (key_of (event rows p)) (and-second b (is_some_and (same_key key) (key_of (event rows p))) h) in
    let same : own ≡ key = cc (sym is ∙ there) in
    subst (λ k. is_some (entry (put key_cmp own x s) k) ≡ true) same (has-there own x s)

-- ---- the keys that an event needs

pub has-any : (s : State) (key : Key) (ks : List Key) → All (λ k. is_some (entry s k) ≡ true) ks → list_any (same_key key) ks ≡ true → is_some (entry s key) ≡ true
has-any s key [] h e = absurd (cc e)
has-any s key (k ∷ ks) h e = by (or_cases (same_key key k) (list_any (same_key key) ks) e) (has-any s key ks (All-tail P k ks h))
  where
    P : Key → Type 0
    P k = is_some (entry s k) ≡ true

    by : (same_key key k ≡ true) ⊎ (list_any (same_key key) ks ≡ true) → (list_any (same_key key) ks ≡ true → is_some (entry s key) ≡ true) → is_some (entry s key) ≡ true
    by (inl f) later =
        let same : Some k ≡ Some key = at-key key (Some k) f in
        subst P (cc same) (All-head P k ks h)
    by (inr f) later = later f

-- ---- a key that a map lacks

lacks : (o : Option ℕ) (b : Bool) → is_some o ≡ false → (b ≡ true → is_some o ≡ true) → b ≡ false
lacks o false e h = refl
lacks o true e h = absurd (cc (sym e ∙ h refl))

pub none-put : (rows : List Row) (keys : State) (key : Key) (cs : List CheckedEvent) → is_some (entry keys key) ≡ false → All (HasPutKey rows keys) cs → All (λ c. is_put_at rows key c ≡ false) cs
none-put rows keys key cs e h = λ i d l. lacks (entry keys key) (is_put_at rows key (get_or cs i d)) e (h i d l key)

pub none-needs : (v : RoomVersion) (rows : List Row) (keys : State) (key : Key) (cs : List CheckedEvent) → is_some (entry keys key) ≡ false → All (λ (c : CheckedEvent). HasNeededKeys v rows keys c.event) cs → All (λ (c : CheckedEvent). is_needed_by v rows key c.event ≡ false) cs
none-needs v rows keys key cs e h = λ i d l. lacks (entry keys key) (is_needed_by v rows key (get_or cs i d).event) e (h i d l key)

-- ---- the keys of all events, with one more among them, and in a longer record

module _ (v : RoomVersion) (rows : List Row) where
  pub keys-more : (old new : TouchedKeys) (order : List CheckedEvent) (place : ℕ) (c : CheckedEvent) → All (HasKeysOf v rows old) order → ((d : CheckedEvent) → HasKeysOf v rows old d → HasKeysOf v rows new d) → HasKeysOf v rows new c → All (HasKeysOf v rows new) (take place order ++ c ∷ drop place order)
  keys-more old new order place c h stay added =
      let P : CheckedEvent → Type 0 = HasKeysOf v rows new in
      let all : All P order = λ i d l. stay (get_or order i d) (h i d l) in
      All-append P (take place order) (c ∷ drop place order) (All-take P place order all) (All-cons P c (drop place order) added (All-drop P place order all))

  pub keys-longer : (longer : List Row) → IsLonger rows longer → (keys : TouchedKeys) (order : List CheckedEvent) → All (λ (c : CheckedEvent). c.event < length rows) order → All (HasKeysOf v rows keys) order → All (HasKeysOf v longer keys) order
  keys-longer longer l keys order known h = λ i d m.
      let c = get_or order i d in
      subst (λ e. ((key : Key) → (c.is_put && is_some_and (same_key key) (key_of e)) ≡ true → is_some (entry keys.put_keys key) ≡ true) × ((key : Key) → list_any (same_key key) (needed_keys v e) ≡ true → is_some (entry keys.needed_keys key) ≡ true))
      (sym (event-longer rows longer l c.event (known i d m))) (h i d m)
