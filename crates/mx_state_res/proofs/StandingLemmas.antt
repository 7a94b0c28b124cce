-- What stands at keys between events that were checked.
use Rattle.std.proofs.Common.{◌≡◌, ◌<◌, ◌+◌, ◌&&◌, ◌||◌, ◌⊎◌, inl, inr, ℕ, Bool, true, false, cond, List, [], ◌∷◌, ◌++◌, length, take, drop, get_or, slice_index_or, Option, Some, None, refl, sym, ap, subst, ◌∙◌, arith}
use Rattle.std.specs.Prelude.{codes, is_none, is_some, option_map, unwrap_or, if◌then◌else◌}
use Rattle.std.specs.Option.{option_or}
use Rattle.std.specs.List.{All, list_any}
use Rattle.std.specs.Ordering.{eq_by_cmp, is_eq}
use Rattle.std.specs.FinMap.Entries.{put}
use Rattle.std.proofs.Math.Bool.{beq}
use Rattle.std.proofs.lemmas.List.{drop-map, drop_all, drop_more, length-map, take-append-drop, take-map, take_more}
use Rattle.std.proofs.lemmas.List.Elements.{All-cons, All-drop, All-head, All-map, All-tail}
use Rattle.std.proofs.lemmas.List.Sums.{fold-append}
use Rattle.mx_redact.specs.Fields.{Event, is_some_and}
use Rattle.mx_pdu.specs.Event.{is_state}
use Rattle.mx_pdu.specs.StateKeys.{Key}
use Rattle.mx_auth.specs.Rules.{AgreeAt, key_of, needed_keys, same_key}
use Rattle.mx_auth.specs.declared.versions.RoomVersion.{RoomVersion}
use Rattle.mx_auth.proofs.NeededKeyLemmas.{rules-needed_keys}
use Rattle.mx_graph.specs.Record.{Row, event, row}
use Rattle.mx_graph.specs.StateMap.{State, entry, key_cmp}
use Rattle.mx_orders.specs.StateMap.{view_by, with_event}
use Rattle.mx_state_res.specs.KeptResolutions.{AreChecked, events_checked}
use Rattle.mx_state_res.specs.LaterResolution.{is_put, stays}
use Rattle.mx_state_res.specs.Resolution.{after_check, is_allowed, iterative_auth_checks, judged_in, usable_auth_event}
use Rattle.mx_state_res.specs.TouchedKeys.{IsUntouched, create_key, is_needed_by, is_put_at, keys_judged_by, last_put, with_put}
use Rattle.mx_state_res.specs.declared.kept_resolutions.checked_events.CheckedEvent.{CheckedEvent}
use Rattle.mx_states.proofs.EntryLemmas.{entry-put, equal-keys}
use Rattle.mx_state_res.proofs.KeptResolutionLemmas.{at-key, event-at, other-key, replaced, same-itself}
use Rattle.mx_state_res.proofs.LaterStateLemmas.{put-elsewhere, put-there}
use Rattle.mx_state_res.proofs.NeedLemmas.{is_put-unneeded}
use Rattle.mx_state_res.proofs.OneMoreLemmas.{checked-behind}
use Rattle.mx_state_res.proofs.TestLemmas.{and-first, and-second}

-- ---- one key

or-assoc : (a b c : Option ℕ) → option_or (option_or a b) c ≡ option_or a (option_or b c)
or-assoc None b c = refl
or-assoc (Some x) b c = refl

or-none : (a : Option ℕ) → option_or a None ≡ a
or-none None = refl
or-none (Some x) = refl

pub same-keys : (key q : Key) → same_key key q ≡ true → key ≡ q
same-keys key q e = let h : Some q ≡ Some key = at-key key (Some q) e in sym (cc h)

other-keys : (key q : Key) → same_key key q ≡ false → is_eq (key_cmp key q) ≡ false
other-keys key q n = by (is_eq (key_cmp key q)) refl
  where
    by : (b : Bool) → is_eq (key_cmp key q) ≡ b → is_eq (key_cmp key q) ≡ false
    by false c = c
    by true c = absurd (cc (sym (same-itself key) ∙ ap (same_key key) (equal-keys key q c) ∙ n))

entry-with : (key : Key) (p : ℕ) (s : State) (b : Bool) (o : Option Key)
    → entry (if b then unwrap_or (option_map (λ k. put key_cmp k p s) o) s else s) key ≡ option_or (if b && is_some_and (same_key key) o then Some p else None) (entry s key)
entry-with key p s false o = refl
entry-with key p s true None = refl
entry-with key p s true (Some q) = at (same_key key q) refl
  where
    at : (d : Bool) → same_key key q ≡ d → entry (put key_cmp q p s) key ≡ option_or (if d then Some p else None) (entry s key)
    at true e = ap (entry (put key_cmp q p s)) (same-keys key q e) ∙ put-there q p s
    at false e = put-elsewhere q p s key (other-keys key q e)

module _ (v : RoomVersion) (rows : List Row) (key : Key) where
  entry-after : (c : CheckedEvent) (s : State) → c.is_put ≡ is_put v rows s c.event → entry (after_check v rows s c.event) key ≡ option_or (if is_put_at rows key c then Some c.event else None) (entry s key)
  unfolding after_check
  entry-after c s was =
      ap (λ b. entry (if b then with_event s (event rows c.event) c.event else s) key) (sym was) ∙ entry-with key c.event s c.is_put (key_of (event rows c.event))

  -- what stands at a key once events were checked
  pub stands : (cs : List CheckedEvent) (s : State) → AreChecked v rows s cs → entry (iterative_auth_checks v rows s (events_checked cs)) key ≡ option_or (last_put rows key cs) (entry s key)
  stands [] s h = refl
  stands (c ∷ cs) s h =
      stands cs (after_check v rows s c.event) h.1 ∙ ap (option_or (last_put rows key cs)) (entry-after c s h.0)
      ∙ sym (or-assoc (last_put rows key cs) (if is_put_at rows key c then Some c.event else None) (entry s key))

-- ---- looked for from the last event on

last-append : (rows : List Row) (key : Key) (cs ds : List CheckedEvent) → last_put rows key (cs ++ ds) ≡ option_or (last_put rows key ds) (last_put rows key cs)
last-append rows key [] ds = sym (or-none (last_put rows key ds))
last-append rows key (c ∷ cs) ds =
    ap (λ o. option_or o (if is_put_at rows key c then Some c.event else None)) (last-append rows key cs ds)
    ∙ or-assoc (last_put rows key ds) (last_put rows key cs) (if is_put_at rows key c then Some c.event else None)

-- what stands before the first of these events that was not looked at
pub last-here : (rows : List Row) (key : Key) (order : List CheckedEvent) (p : ℕ) (c d : CheckedEvent) → p < length order → c ≡ get_or order p d → last_put rows key (drop (p + 1) order) ≡ None → is_put_at rows key c ≡ true → Some c.event ≡ last_put rows key order
last-here rows key order p c d l is next here =
    sym (ap (last_put rows key) parts ∙ last-append rows key (take p order) (c ∷ drop (p + 1) order)
    ∙ ap (λ o. option_or (option_or o (if is_put_at rows key c then Some c.event else None)) (last_put rows key (take p order))) next
    ∙ ap (λ b. option_or (if b then Some c.event else None) (last_put rows key (take p order))) here)
  where
    parts : order ≡ take p order ++ (c ∷ drop (p + 1) order)
    parts = sym (take-append-drop p order) ∙ ap (λ cs. take p order ++ cs) (drop_more order p d l ∙ ap (λ q. q ∷ drop (p + 1) order) (sym is))

pub last-further : (rows : List Row) (key : Key) (order : List CheckedEvent) (p : ℕ) (c d : CheckedEvent) → p < length order → c ≡ get_or order p d → last_put rows key (drop (p + 1) order) ≡ None → is_put_at rows key c ≡ false → last_put rows key (drop p order) ≡ None
last-further rows key order p c d l is next here =
    ap (last_put rows key) (drop_more order p d l ∙ ap (λ q. q ∷ drop (p + 1) order) (sym is))
    ∙ ap (λ o. option_or o (if is_put_at rows key c then Some c.event else None)) next ∙ ap (λ b. if b then Some c.event else None) here

-- none was put there
pub never-put : (rows : List Row) (key : Key) (cs : List CheckedEvent) → All (λ c. is_put_at rows key c ≡ false) cs → last_put rows key cs ≡ None
never-put rows key [] h = refl
never-put rows key (c ∷ cs) h =
    let P : CheckedEvent → Type 0 = λ c. is_put_at rows key c ≡ false in
    ap (λ o. option_or o (if is_put_at rows key c then Some c.event else None)) (never-put rows key cs (All-tail P c cs h)) ∙ ap (λ b. if b then Some c.event else None) (All-head P c cs h)

-- ---- a state that comes to have, at some keys, what another has

-- at each key a state has what one of two has
abbrev pub Stood : State → State → State → Type 0
Stood s t u = (q : Key) → (entry u q ≡ entry s q) ⊎ (entry u q ≡ entry t q)

pub stood-begins : (s t : State) → Stood s t s
stood-begins s t = λ q. inl refl

stood-put : (s t : State) (key : Key) (o : Option ℕ) → entry t key ≡ option_or o (entry s key) → (u : State) → Stood s t u → Stood s t (with_put o key u)
stood-put s t key None e u h = h
stood-put s t key (Some p) e u h = λ q. by q (is_eq (key_cmp q key)) refl
  where
    move : (q : Key) → is_eq (key_cmp q key) ≡ false → (entry u q ≡ entry s q) ⊎ (entry u q ≡ entry t q) → (entry (put key_cmp key p u) q ≡ entry s q) ⊎ (entry (put key_cmp key p u) q ≡ entry t q)
    move q c (inl f) = inl (put-elsewhere key p u q c ∙ f)
    move q c (inr f) = inr (put-elsewhere key p u q c ∙ f)

    by : (q : Key) (b : Bool) → is_eq (key_cmp q key) ≡ b → (entry (put key_cmp key p u) q ≡ entry s q) ⊎ (entry (put key_cmp key p u) q ≡ entry t q)
    by q true c = inr (ap (entry (put key_cmp key p u)) (equal-keys q key c) ∙ put-there key p u ∙ sym e ∙ ap (entry t) (sym (equal-keys q key c)))
    by q false c = move q c (h q)

put-stands : (s t : State) (key : Key) (o : Option ℕ) → entry t key ≡ option_or o (entry s key) → (u : State) → Stood s t u → entry (with_put o key u) key ≡ entry t key
put-stands s t key None e u h = by (h key)
  where
    by : (entry u key ≡ entry s key) ⊎ (entry u key ≡ entry t key) → entry u key ≡ entry t key
    by (inl f) = f ∙ sym e
    by (inr f) = f
put-stands s t key (Some p) e u h = put-there key p u ∙ sym e

put-keeps : (s t : State) (key : Key) (o : Option ℕ) → entry t key ≡ option_or o (entry s key) → (u : State) (q : Key) → entry u q ≡ entry t q → entry (with_put o key u) q ≡ entry t q
put-keeps s t key None e u q h = h
put-keeps s t key (Some p) e u q h = by (is_eq (key_cmp q key)) refl
  where
    by : (b : Bool) → is_eq (key_cmp q key) ≡ b → entry (put key_cmp key p u) q ≡ entry t q
    by true c = ap (entry (put key_cmp key p u)) (equal-keys q key c) ∙ put-there key p u ∙ sym e ∙ ap (entry t) (sym (equal-keys q key c))
    by false c = put-elsewhere key p u q c ∙ h

-- the last of some events that was put at a key is put
module _ (v : RoomVersion) (rows : List Row) (order : List CheckedEvent) (s : State) (checked : AreChecked v rows s order) where
  abbrev checked_state : State
  checked_state = iterative_auth_checks v rows s (events_checked order)

  pub step-stood : (key : Key) (u w : State) → w ≡ with_put (last_put rows key order) key u → Stood s checked_state u → Stood s checked_state w
  step-stood key u w ok h = subst (Stood s checked_state) (sym ok) (stood-put s checked_state key (last_put rows key order) (stands v rows key order s checked) u h)

  pub step-there : (key : Key) (u w : State) → w ≡ with_put (last_put rows key order) key u → Stood s checked_state u → entry w key ≡ entry checked_state key
  step-there key u w ok h = ap (λ x. entry x key) ok ∙ put-stands s checked_state key (last_put rows key order) (stands v rows key order s checked) u h

  pub step-keeps : (key : Key) (u w : State) → w ≡ with_put (last_put rows key order) key u → (q : Key) → entry u q ≡ entry checked_state q → entry w q ≡ entry checked_state q
  step-keeps key u w ok q e = ap (λ x. entry x q) ok ∙ put-keeps s checked_state key (last_put rows key order) (stands v rows key order s checked) u q e

-- two states that have the same at a key have so with an event put in both
pub put-alike : (k : Key) (x : ℕ) (s t : State) (q : Key) → entry s q ≡ entry t q → entry (put key_cmp k x s) q ≡ entry (put key_cmp k x t) q
put-alike k x s t q e = entry-put q k x s ∙ ap (cond (is_eq (key_cmp q k)) (Some x)) e ∙ sym (entry-put q k x t)

pub same-tests : (a b : Bool) → beq a b ≡ true → a ≡ b
same-tests true true e = refl
same-tests false false e = refl
same-tests true false e = absurd (cc e)
same-tests false true e = absurd (cc e)

-- ---- an event is judged alike in states that have the same where the rules look

agree-at : (rows : List Row) (f g : Key → Option ℕ) (ks : List Key) → All (λ k. f k ≡ g k) ks → AgreeAt ks (view_by rows f) (view_by rows g)
agree-at rows f g [] h = tt
agree-at rows f g (k ∷ ks) h =
    let P : Key → Type 0 = λ k. f k ≡ g k in
    (ap (option_map (event rows)) (All-head P k ks h), agree-at rows f g ks (All-tail P k ks h))

pub is_put-alike : (v : RoomVersion) (rows : List Row) (s t : State) (p : ℕ) → All (λ k. entry s k ≡ entry t k) (keys_judged_by v rows p) → is_put v rows s p ≡ is_put v rows t p
unfolding is_allowed
is_put-alike v rows s t p h =
    ap (λ r. is_state e && is_none r)
    (rules-needed_keys v e (judged_in v rows s e) (judged_in v rows t e) (ap (option_map (λ n. (row rows n).id)) (wide create_key (All-head P create_key (needed_keys v e) h)))
    (agree-at rows (λ q. option_or (entry s q) (usable_auth_event v rows e q)) (λ q. option_or (entry t q) (usable_auth_event v rows e q)) (needed_keys v e)
    (λ i d l. wide (get_or (needed_keys v e) i d) (All-tail P create_key (needed_keys v e) h i d l))))
  where
    e : Event
    e = event rows p

    P : Key → Type 0
    P k = entry s k ≡ entry t k

    wide : (q : Key) → entry s q ≡ entry t q → option_or (entry s q) (usable_auth_event v rows e q) ≡ option_or (entry t q) (usable_auth_event v rows e q)
    wide q g = ap (λ o. option_or o (usable_auth_event v rows e q)) g

-- ---- an event that was put, and those behind it

module _ (v : RoomVersion) (rows : List Row) (key : Key) (x : ℕ) where
  -- one that is judged alike, and is not put at the key, is passed
  stays-next : (s : State) (p : ℕ) (ps : List ℕ) (b : Bool) → is_put v rows s p ≡ b → is_put v rows (put key_cmp key x s) p ≡ b → (b && is_some_and (same_key key) (key_of (event rows p))) ≡ false
      → stays v rows key x s (p ∷ ps) ≡ stays v rows key x (after_check v rows s p) ps
  unfolding after_check
  stays-next s p ps true f g o =
      let apart : is_some_and (eq_by_cmp key_cmp key) (key_of (event rows p)) ≡ false = other-key key (key_of (event rows p)) o in
      (λ i. if f i then (if g i then (if apart i then Some false else stays v rows key x (with_event s (event rows p) p) ps) else None)
      else (if is_put v rows (put key_cmp key x s) p then None else stays v rows key x s ps))
      ∙ ap (λ t. stays v rows key x t ps) (sym (ap (λ b. if b then with_event s (event rows p) p else s) f))
  stays-next s p ps false f g o =
      (λ i. if f i then
      (if is_put v rows (put key_cmp key x s) p then (if is_some_and (eq_by_cmp key_cmp key) (key_of (event rows p)) then Some false else stays v rows key x (with_event s (event rows p) p) ps) else None)
      else (if g i then None else stays v rows key x s ps))
      ∙ ap (λ t. stays v rows key x t ps) (sym (ap (λ b. if b then with_event s (event rows p) p else s) f))

  -- where none needs the key, and none is put there, it stays
  pub stays-untouched : (cs : List CheckedEvent) (s : State) → IsUntouched v rows key cs → AreChecked v rows s cs → stays v rows key x s (events_checked cs) ≡ Some true
  stays-untouched [] s n h = refl
  stays-untouched (c ∷ cs) s n h =
      let P : CheckedEvent → Type 0 = λ c. is_needed_by v rows key c.event ≡ false in
      let Q : CheckedEvent → Type 0 = λ c. is_put_at rows key c ≡ false in
      stays-next s c.event (events_checked cs) c.is_put (sym h.0) (is_put-unneeded v rows key n.0 c.event (All-head P c cs n.1.0) x s ∙ sym h.0) (All-head Q c cs n.1.1)
      ∙ stays-untouched cs (after_check v rows s c.event) (n.0, (All-tail P c cs n.1.0, All-tail Q c cs n.1.1)) h.1

  module _ (order : List CheckedEvent) (agreed : State) (checked : AreChecked v rows agreed order) (at : ℕ) (c d : CheckedEvent) (l : at < length order) (is : c ≡ get_or order at d) where
    abbrev before : ℕ → State
    before i = iterative_auth_checks v rows agreed (take i (events_checked order))

    abbrev behind : ℕ → List ℕ
    behind i = drop i (events_checked order)

    here : drop at order ≡ c ∷ drop (at + 1) order
    here = drop_more order at d l ∙ ap (λ q. q ∷ drop (at + 1) order) (sym is)

    left : AreChecked v rows (before at) (drop at order)
    left = checked-behind v rows order at agreed checked

    pub was-put : c.is_put ≡ is_put v rows (before at) c.event
    was-put = (subst (AreChecked v rows (before at)) here left).0

    next-state : before (at + 1) ≡ after_check v rows (before at) c.event
    next-state =
        ap (iterative_auth_checks v rows agreed) (take_more (events_checked order) at 0 (let e : length (events_checked order) ≡ length order = length-map order (λ (q : CheckedEvent). q.event) in omega arith)
        ∙ ap (λ p. take at (events_checked order) ++ p ∷ []) (event-at order at d l ∙ ap (λ (q : CheckedEvent). q.event) (sym is)))
        ∙ fold-append (after_check v rows) agreed (take at (events_checked order)) (c.event ∷ [])

    behind-here : behind at ≡ c.event ∷ behind (at + 1)
    behind-here =
        drop-map (λ (q : CheckedEvent). q.event) at order ∙ ap events_checked here
        ∙ ap (λ ps. c.event ∷ ps) (sym (drop-map (λ (q : CheckedEvent). q.event) (at + 1) order))

    pub stays-on : is_put v rows (put key_cmp key x (before at)) c.event ≡ c.is_put → is_put_at rows key c ≡ false
        → stays v rows key x (before at) (behind at) ≡ stays v rows key x (before (at + 1)) (behind (at + 1))
    stays-on alike other =
        ap (stays v rows key x (before at)) behind-here ∙ stays-next (before at) c.event (behind (at + 1)) c.is_put (sym was-put) alike other
        ∙ ap (λ t. stays v rows key x t (behind (at + 1))) (sym next-state)

    pub stays-not : is_put v rows (put key_cmp key x (before at)) c.event ≡ c.is_put → is_put_at rows key c ≡ true → stays v rows key x (before at) (behind at) ≡ Some false
    stays-not alike there =
        let flag : c.is_put ≡ true = and-first c.is_put (is_some_and (same_key key) (key_of (event rows c.event))) there in
        ap (stays v rows key x (before at)) (drop-map (λ (q : CheckedEvent). q.event) at order)
        ∙ replaced v rows key x (before at) c (drop (at + 1) order) (drop at order) here flag (alike ∙ flag)
        (at-key key (key_of (event rows c.event)) (and-second c.is_put (is_some_and (same_key key) (key_of (event rows c.event))) there)) left

  pub stays-all : (order : List CheckedEvent) (agreed s : State) (at : ℕ) → length order < at + 1 → stays v rows key x s (drop at (events_checked order)) ≡ Some true
  stays-all order agreed s at l =
      ap (stays v rows key x s) (drop_all at (events_checked order) (let e : length (events_checked order) ≡ length order = length-map order (λ (q : CheckedEvent). q.event) in omega arith))

  pub stays-untouched-from : (order : List CheckedEvent) (agreed : State) (checked : AreChecked v rows agreed order) (at : ℕ) → IsUntouched v rows key order
      → stays v rows key x (iterative_auth_checks v rows agreed (take at (events_checked order))) (drop at (events_checked order)) ≡ Some true
  stays-untouched-from order agreed checked at n =
      let P : CheckedEvent → Type 0 = λ c. is_needed_by v rows key c.event ≡ false in
      let Q : CheckedEvent → Type 0 = λ c. is_put_at rows key c ≡ false in
      ap (stays v rows key x (iterative_auth_checks v rows agreed (take at (events_checked order)))) (drop-map (λ (q : CheckedEvent). q.event) at order)
      ∙ stays-untouched (drop at order) (iterative_auth_checks v rows agreed (take at (events_checked order))) (n.0, (All-drop P at order n.1.0, All-drop Q at order n.1.1)) (checked-behind v rows order at agreed checked)
