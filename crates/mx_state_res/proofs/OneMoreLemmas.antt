-- One state more among those that were resolved.
use Rattle.std.proofs.Common.{◌≡◌, ℕ, ◌+◌, ◌<◌, Bool, true, false, List, [], ◌∷◌, ◌++◌, length, take, drop, Option, Some, None, inl, inr, ◌⊎◌, refl, sym, ap, ap₂, subst, ◌∙◌, arith, ◌||◌}
use Rattle.std.specs.Prelude.{if◌then◌else◌, option_map, unwrap_or, IfSome, cond, filter, get_or, is_none, is_some}
use Rattle.std.specs.List.{All}
use Rattle.std.specs.FinMap.Entries.{put}
use Rattle.std.specs.Ordering.{eq_by_cmp, is_eq}
use Rattle.mx_redact.specs.Fields.{is_some_and}
use Rattle.std.proofs.lemmas.List.{drop-map, get_or_append_left, length-append, map-append, take-append-drop, take-map}
use Rattle.std.proofs.lemmas.List.Elements.{All-append, All-cons, All-drop, All-take}
use Rattle.mx_pdu.specs.StateKeys.{Key}
use Rattle.mx_auth.specs.Rules.{key_of}
use Rattle.mx_auth.specs.declared.versions.RoomVersion.{RoomVersion}
use Rattle.mx_graph.specs.Record.{Row, event}
use Rattle.mx_graph.specs.Graph.{IsSound}
use Rattle.mx_graph.proofs.Members.{In, in_filter}
use Rattle.mx_graph.proofs.Closure.{or_cases, or_left, or_right}
use Rattle.mx_graph.specs.StateMap.{State, key_cmp, entry}
use Rattle.mx_orders.specs.StateMap.{with_event}
use Rattle.mx_orders.specs.Mainline.{mainline, mainline_cmp, mainline_order, power_key, put_in_order}
use Rattle.mx_states.specs.Numbered.{AllAlike, without}
use Rattle.mx_state_res.specs.Resolution.{after_check, full_conflicted, iterative_auth_checks, power_events, resolve, unconflicted}
use Rattle.mx_states.specs.Entries.{has_entry}
use Rattle.mx_state_res.specs.LaterResolution.{IsOneMore, agreed_line, checking_order, is_put, resolution_with, stays}
use Rattle.mx_state_res.specs.KeptResolutions.{AreChecked, AreSettled, DifferAtKeys, IsOutcome, events_checked, is_put_by, is_settled, made_by}
use Rattle.mx_state_res.specs.declared.kept_resolutions.KeptResolution.{KeptResolution}
use Rattle.mx_state_res.specs.declared.kept_resolutions.checked_events.CheckedEvent.{CheckedEvent}
use Rattle.mx_state_res.specs.declared.kept_resolutions.outcomes.Outcome.{Outcome}
use Rattle.mx_state_res.specs.declared.kept_resolutions.outcomes.Outcome.TheVariants.{Refused, Replaced, Stays}
use Rattle.mx_states.proofs.KeyLemmas.{Sorted}
use Rattle.mx_state_res.proofs.LaterCheckLemmas.{put-beside, put-twice, sorted-checks, sorted-with}
use Rattle.mx_states.proofs.EntryLemmas.{equal-keys}
use Rattle.mx_state_res.proofs.EqualStateLemmas.{find-own}
use Rattle.mx_state_res.proofs.LaterStateLemmas.{all-sorted, put-elsewhere, put-there, unconflicted-later, unconflicted-none}
use Rattle.mx_state_res.proofs.SetLemmas.{all-at}
use Rattle.mx_state_res.proofs.LaterResolutionLemmas.{from-one-before, no-powers, order-is}
use Rattle.mx_state_res.proofs.SameMembersLemmas.{Within, full-same, resolve-members, sorted-unconflicted, unconflicted-same}
use Rattle.mx_state_res.proofs.KeptResolutionLemmas.{passed}

equal-key : (key : Key) (o : Option Key) → is_some_and (eq_by_cmp key_cmp key) o ≡ true → o ≡ Some key
equal-key key None e = absurd (cc e)
equal-key key (Some q) e = ap Some (sym (equal-keys key q e))

-- ---- events as they were checked

module _ (v : RoomVersion) (rows : List Row) (key : Key) where
  after-event : (p : ℕ) (b : Bool) (s : State) → is_put v rows s p ≡ b → key_of (event rows p) ≡ Some key → after_check v rows s p ≡ (if b then put key_cmp key p s else s)
  unfolding after_check
  after-event p b s flag at =
      ap (λ c. if c then with_event s (event rows p) p else s) flag
      ∙ ap (λ t. if b then t else s) (ap (λ o. unwrap_or (option_map (λ k. put key_cmp k p s) o) s) at)

  -- ---- with an event before them

  checked-after : (x : ℕ) (cs : List CheckedEvent) (s : State) (b : Bool) → Sorted s → AreChecked v rows s cs → stays v rows key x s (events_checked cs) ≡ Some b → AreChecked v rows (put key_cmp key x s) cs
  unfolding after_check
  checked-after x [] s b h f e = tt
  checked-after x (c ∷ cs) s b h f e =
      by (λ t g i k. checked-after x cs t b g i k) (is_put v rows s c.event) refl (is_put v rows (put key_cmp key x s) c.event) refl
    where
      o : Option Key
      o = key_of (event rows c.event)

      both : ((t : State) → Sorted t → AreChecked v rows t cs → stays v rows key x t (events_checked cs) ≡ Some b → AreChecked v rows (put key_cmp key x t) cs)
          → is_put v rows s c.event ≡ true → is_put v rows (put key_cmp key x s) c.event ≡ true → (here : Bool) → is_some_and (eq_by_cmp key_cmp key) o ≡ here
          → AreChecked v rows (after_check v rows (put key_cmp key x s) c.event) cs
      both later p q true at =
          let there : o ≡ Some key = equal-key key o at in
          subst (λ t. AreChecked v rows t cs) (after-event c.event true s p there ∙ sym (put-twice key x c.event s h) ∙ sym (after-event c.event true (put key_cmp key x s) q there)) f.1
      both later p q false at =
          let without_it : after_check v rows s c.event ≡ with_event s (event rows c.event) c.event = ap (λ d. if d then with_event s (event rows c.event) c.event else s) p in
          let with_it : after_check v rows (put key_cmp key x s) c.event ≡ put key_cmp key x (with_event s (event rows c.event) c.event) =
          ap (λ d. if d then with_event (put key_cmp key x s) (event rows c.event) c.event else put key_cmp key x s) q ∙ put-beside key x c.event s o h at in
          let onward : stays v rows key x s (events_checked (c ∷ cs)) ≡ stays v rows key x (with_event s (event rows c.event) c.event) (events_checked cs) = (λ k. if p k then
          (if q k then (if at k then Some false else stays v rows key x (with_event s (event rows c.event) c.event) (events_checked cs)) else None)
          else (if q k then None else stays v rows key x s (events_checked cs))) in
          subst (λ t. AreChecked v rows t cs) (sym with_it)
          (later (with_event s (event rows c.event) c.event) (sorted-with o c.event s h) (subst (λ t. AreChecked v rows t cs) without_it f.1) (sym onward ∙ e))

      by : ((t : State) → Sorted t → AreChecked v rows t cs → stays v rows key x t (events_checked cs) ≡ Some b → AreChecked v rows (put key_cmp key x t) cs)
          → (i : Bool) → is_put v rows s c.event ≡ i → (j : Bool) → is_put v rows (put key_cmp key x s) c.event ≡ j → AreChecked v rows (put key_cmp key x s) (c ∷ cs)
      by later true p true q = (f.0 ∙ p ∙ sym q, both later p q (is_some_and (eq_by_cmp key_cmp key) o) refl)
      by later true p false q =
          let gone : stays v rows key x s (events_checked (c ∷ cs)) ≡ None = (λ k. if p k then
          (if q k then (if is_some_and (eq_by_cmp key_cmp key) (key_of (event rows c.event)) then Some false else stays v rows key x (with_event s (event rows c.event) c.event) (events_checked cs)) else None)
          else (if q k then None else stays v rows key x s (events_checked cs))) in
          absurd (cc (sym gone ∙ e))
      by later false p true q =
          let gone : stays v rows key x s (events_checked (c ∷ cs)) ≡ None = (λ k. if p k then
          (if q k then (if is_some_and (eq_by_cmp key_cmp key) (key_of (event rows c.event)) then Some false else stays v rows key x (with_event s (event rows c.event) c.event) (events_checked cs)) else None)
          else (if q k then None else stays v rows key x s (events_checked cs))) in
          absurd (cc (sym gone ∙ e))
      by later false p false q =
          let r = passed v rows key x s c cs (c ∷ cs) refl (f.0 ∙ p) q f in (
            f.0 ∙ p ∙ sym q,
            subst (λ t. AreChecked v rows t cs) (sym (ap (λ d. if d then with_event (put key_cmp key x s) (event rows c.event) c.event else put key_cmp key x s) q))
                (later s h r.0 (sym r.1 ∙ e)),
          )

-- ---- some of them

module _ (v : RoomVersion) (rows : List Row) where
  checked-front : (fs bs : List CheckedEvent) (s : State) → AreChecked v rows s (fs ++ bs) → AreChecked v rows s fs
  checked-front [] bs s f = tt
  checked-front (c ∷ fs) bs s f = (f.0, checked-front fs bs (after_check v rows s c.event) f.1)

  checked-back : (fs bs : List CheckedEvent) (s : State) → AreChecked v rows s (fs ++ bs) → AreChecked v rows (iterative_auth_checks v rows s (events_checked fs)) bs
  checked-back [] bs s f = f
  checked-back (c ∷ fs) bs s f = checked-back fs bs (after_check v rows s c.event) f.1

  checked-join : (fs bs : List CheckedEvent) (s : State) → AreChecked v rows s fs → AreChecked v rows (iterative_auth_checks v rows s (events_checked fs)) bs → AreChecked v rows s (fs ++ bs)
  checked-join [] bs s f g = g
  checked-join (c ∷ fs) bs s f g = (f.0, checked-join fs bs (after_check v rows s c.event) f.1 g)

-- ---- between two of them

module _ (v : RoomVersion) (rows : List Row) (order : List CheckedEvent) (place : ℕ) (agreed : State) (checked : AreChecked v rows agreed order) where
  parts : AreChecked v rows agreed (take place order ++ drop place order)
  parts = subst (AreChecked v rows agreed) (sym (take-append-drop place order)) checked

  pub checked-before : AreChecked v rows agreed (take place order)
  checked-before = checked-front v rows (take place order) (drop place order) agreed parts

  pub checked-behind : AreChecked v rows (iterative_auth_checks v rows agreed (take place (events_checked order))) (drop place order)
  checked-behind =
      subst (λ ps. AreChecked v rows (iterative_auth_checks v rows agreed ps) (drop place order)) (sym (take-map (λ (d : CheckedEvent). d.event) place order))
      (checked-back v rows (take place order) (drop place order) agreed parts)

-- ---- lists

to-front : {A : Type 0} (xs : List A) (t y : A) → In y (xs ++ t ∷ []) → In y (t ∷ xs)
to-front [] t y m = m
to-front (z ∷ xs) t y (inl e) = inr (inl e)
to-front (z ∷ xs) t y (inr m) = elim (to-front xs t y m) [
  | inl e ↦ inl e
  | inr n ↦ inr (inr n)
]

pub to-back : {A : Type 0} (xs : List A) (t y : A) → In y (t ∷ xs) → In y (xs ++ t ∷ [])
to-back [] t y m = m
to-back (z ∷ xs) t y (inl e) = inr (to-back xs t y (inl e))
to-back (z ∷ xs) t y (inr (inl e)) = inl e
to-back (z ∷ xs) t y (inr (inr n)) = inr (to-back xs t y (inr n))

alike-front : (key : Key) (ss : List State) (t : State) → AllAlike key (ss ++ t ∷ []) → AllAlike key ss
alike-front key [] t h = tt
alike-front key (u ∷ ss) t h = λ k d l.
    subst (λ w. entry w key ≡ entry u key) (get_or_append_left ss (t ∷ []) d k l)
    (h k d (let e : length (ss ++ t ∷ []) ≡ length ss + 1 = length-append ss (t ∷ []) in omega arith))

alike-two : (key : Key) (us : List State) → AllAlike key us → (a b : State) → In a us → In b us → entry a key ≡ entry b key
alike-two key [] h a b m n = absurd m
alike-two key (u ∷ us) h a b m n = as-first a m ∙ sym (as-first b n)
  where
    as-first : (w : State) → In w (u ∷ us) → entry w key ≡ entry u key
    as-first w (inl e) = ap (λ v. entry v key) e
    as-first w (inr i) = all-at (λ v. entry v key ≡ entry u key) us h w i

filter-alike : (f g : Key × ℕ → Bool) (es : State) → ((e : Key × ℕ) → In e es → f e ≡ g e) → filter f es ≡ filter g es
filter-alike f g [] h = refl
filter-alike f g (e ∷ es) h = λ i. cond (h e (inl refl) i) (e ∷ filter-alike f g es (λ d m. h d (inr m)) i) (filter-alike f g es (λ d m. h d (inr m)) i)

-- what is put stays beside what was there
differs-put : (key : Key) (x : ℕ) (s : State) (q : Key) → is_some (entry s q) ≡ true → is_some (entry (put key_cmp key x s) q) ≡ true
differs-put key x s q e = by (is_eq (key_cmp q key)) refl
  where
    by : (b : Bool) → is_eq (key_cmp q key) ≡ b → is_some (entry (put key_cmp key x s) q) ≡ true
    by true c = ap is_some (ap (entry (put key_cmp key x s)) (equal-keys q key c) ∙ put-there key x s)
    by false c = ap is_some (put-elsewhere key x s q c) ∙ e

-- ---- the resolution with one state more

module _ (rows : List Row) (sound : IsSound rows) (v : RoomVersion) (ss : List State) (base : State) (kept : KeptResolution) (at_keys : DifferAtKeys rows ss base kept)
    (checked : AreChecked v rows (unconflicted ss) kept.order.items) (s t : State) (key : Key) (x : ℕ) (one : IsOneMore rows ss s t key x) (place : ℕ)
    (placed : put_in_order (mainline_cmp rows (agreed_line rows ss)) x (events_checked kept.order.items) ≡ take place (events_checked kept.order.items) ++ (x ∷ drop place (events_checked kept.order.items)))
    (o : Outcome) (outcome : IsOutcome v rows key x (iterative_auth_checks v rows (unconflicted ss) (take place (events_checked kept.order.items))) (drop place (events_checked kept.order.items)) o) where
  abbrev order : List CheckedEvent
  order = kept.order.items

  abbrev before : List ℕ
  before = take place (events_checked order)

  abbrev after : List ℕ
  after = drop place (events_checked order)

  abbrev agreed : State
  agreed = unconflicted ss

  abbrev before_it : State
  before_it = iterative_auth_checks v rows agreed before

  abbrev later : List State
  later = t ∷ ss

  abbrev more : List State
  more = ss ++ t ∷ []

  to : Within more later
  to = λ y m. to-front ss t y m

  from : Within later more
  from = λ y m. to-back ss t y m

  sorted : (u : State) → In u more → Sorted u
  sorted u m = all-sorted ss one.sorted s one.member t one.sorted_later key x one.there one.open_at (full_conflicted rows ss) one.elsewhere u (to u m)

  unconflicted-more : unconflicted more ≡ agreed
  unconflicted-more = unconflicted-same more later sorted to from ∙ unconflicted-later ss one.sorted s one.member t one.sorted_later key x one.there one.open_at (full_conflicted rows ss) one.elsewhere

  full-more : full_conflicted rows more ≡ full_conflicted rows later
  full-more = full-same more later sorted to from rows

  order-more : checking_order rows more ≡ put_in_order (mainline_cmp rows (agreed_line rows ss)) x (checking_order rows ss)
  order-more =
      ap₂ (λ u full. mainline_order rows (mainline rows (entry u power_key)) full) (unconflicted-same more later sorted to from) full-more
      ∙ order-is rows sound v ss s t key x one

  in-turn : checking_order rows ss ≡ before ++ after
  in-turn = sym at_keys.order ∙ sym (take-append-drop place (events_checked order))

  resolution-is : (p : Outcome) → IsOutcome v rows key x before_it after p → resolution_with v rows ss key x before after ≡ Some (made_by p key x (resolve v rows ss))
  resolution-is Refused h = λ i. if h i then option_map (λ here. if here then put key_cmp key x (resolve v rows ss) else resolve v rows ss) (stays v rows key x before_it after) else Some (resolve v rows ss)
  resolution-is Replaced h = λ i. if h.0 i then option_map (λ here. if here then put key_cmp key x (resolve v rows ss) else resolve v rows ss) (h.1 i) else Some (resolve v rows ss)
  resolution-is Stays h = λ i. if h.0 i then option_map (λ here. if here then put key_cmp key x (resolve v rows ss) else resolve v rows ss) (h.1 i) else Some (resolve v rows ss)

  pub resolved-more : resolve v rows more ≡ made_by o key x (resolve v rows ss)
  resolved-more =
      resolve-members more later sorted to from v rows
      ∙ subst (λ r. IfSome r (λ resolved. resolve v rows later ≡ resolved)) (resolution-is o outcome)
      (from-one-before rows sound v ss s t key x one before after in-turn (ap (put_in_order (mainline_cmp rows (agreed_line rows ss)) x) (take-append-drop place (events_checked order)) ∙ placed))

  -- the events that were checked, with the event among them
  module _ (c : CheckedEvent) (is : c.event ≡ x) (flag : c.is_put ≡ is_put_by o) where
    abbrev order_more : List CheckedEvent
    order_more = take place order ++ c ∷ drop place order

    known-more : All (λ (d : CheckedEvent). d.event < length rows) order_more
    known-more =
        let P : CheckedEvent → Type 0 = λ d. d.event < length rows in
        All-append P (take place order) (c ∷ drop place order) (All-take P place order at_keys.known)
        (All-cons P c (drop place order) (subst (λ n. n < length rows) (sym is) one.known) (All-drop P place order at_keys.known))

    settled-put : (p : ℕ) → is_settled rows kept.differing base p ≡ true → is_settled rows (put key_cmp key x kept.differing) base p ≡ true
    settled-put p = by (key_of (event rows p))
      where
        at : (q : Key) → (is_some (entry kept.differing q) ≡ true) ⊎ (has_entry (q, p) base ≡ true) → (is_some (entry (put key_cmp key x kept.differing) q) || has_entry (q, p) base) ≡ true
        at q (inl e) = or_left (is_some (entry (put key_cmp key x kept.differing) q)) (has_entry (q, p) base) (differs-put key x kept.differing q e)
        at q (inr e) = or_right (is_some (entry (put key_cmp key x kept.differing) q)) (has_entry (q, p) base) e

        by : (o : Option Key) → is_some_and (λ q. is_some (entry kept.differing q) || has_entry (q, p) base) o ≡ true → is_some_and (λ q. is_some (entry (put key_cmp key x kept.differing) q) || has_entry (q, p) base) o ≡ true
        by None e = absurd (cc e)
        by (Some q) e = at q (or_cases (is_some (entry kept.differing q)) (has_entry (q, p) base) e)

    settled-more : AreSettled rows kept.differing base order → AreSettled rows (put key_cmp key x kept.differing) base order_more
    settled-more h =
        let P : CheckedEvent → Type 0 = λ d. is_settled rows (put key_cmp key x kept.differing) base d.event ≡ true in
        let all : AreSettled rows (put key_cmp key x kept.differing) base order = λ k d l. settled-put (get_or order k d).event (h k d l) in
        All-append P (take place order) (c ∷ drop place order) (All-take P place order all)
        (All-cons P c (drop place order)
        (ap (is_settled rows (put key_cmp key x kept.differing) base) is ∙ ap (is_some_and (λ k. is_some (entry (put key_cmp key x kept.differing) k) || has_entry (k, x) base)) one.at_key
        ∙ or_left (is_some (entry (put key_cmp key x kept.differing) key)) (has_entry (key, x) base) (ap is_some (put-there key x kept.differing))) (All-drop P place order all))

    events-more : events_checked order_more ≡ checking_order rows more
    events-more =
        map-append (λ (d : CheckedEvent). d.event) (take place order) (c ∷ drop place order)
        ∙ (λ i. sym (take-map (λ (d : CheckedEvent). d.event) place order) i ++ is i ∷ sym (drop-map (λ (d : CheckedEvent). d.event) place order) i)
        ∙ sym placed ∙ ap (put_in_order (mainline_cmp rows (agreed_line rows ss)) x) at_keys.order ∙ sym order-more

    behind : AreChecked v rows before_it (drop place order)
    behind = checked-behind v rows order place agreed checked

    sorted_before : Sorted before_it
    sorted_before = sorted-checks v rows before agreed (sorted-unconflicted ss one.sorted)

    put-in : (b : Bool) → is_put v rows before_it x ≡ true → stays v rows key x before_it after ≡ Some b → AreChecked v rows (after_check v rows before_it x) (drop place order)
    put-in b h g =
        subst (λ t. AreChecked v rows t (drop place order)) (sym (after-event v rows key x true before_it h one.at_key))
        (checked-after v rows key x (drop place order) before_it b sorted_before behind
        (ap (stays v rows key x before_it) (sym (drop-map (λ (d : CheckedEvent). d.event) place order)) ∙ g))

    with-it : (p : Outcome) → IsOutcome v rows key x before_it after p → (is_put_by p ≡ is_put v rows before_it x) × AreChecked v rows (after_check v rows before_it x) (drop place order)
    with-it Refused h = (sym h, subst (λ t. AreChecked v rows t (drop place order)) (sym (after-event v rows key x false before_it h one.at_key)) behind)
    with-it Replaced h = (sym h.0, put-in false h.0 h.1)
    with-it Stays h = (sym h.0, put-in true h.0 h.1)

    tail : AreChecked v rows before_it (c ∷ drop place order)
    tail =
        let r = with-it o outcome in
        (flag ∙ r.0 ∙ ap (is_put v rows before_it) (sym is), subst (λ y. AreChecked v rows (after_check v rows before_it y) (drop place order)) (sym is) r.1)

    pub checked-more : AreChecked v rows (unconflicted more) order_more
    checked-more =
        subst (λ t. AreChecked v rows t order_more) (sym unconflicted-more)
        (checked-join v rows (take place order) (c ∷ drop place order) agreed (checked-before v rows order place agreed checked)
        (subst (λ ps. AreChecked v rows (iterative_auth_checks v rows agreed ps) (c ∷ drop place order)) (take-map (λ (d : CheckedEvent). d.event) place order) tail))

    apart-more : (q : Key) → is_some (entry (put key_cmp key x kept.differing) q) ≡ true → AllAlike q more → ⊥
    apart-more q differs h = by (is_eq (key_cmp q key)) refl
      where
        open-there : q ≡ key → (entry s key ≡ None) ⊎ (AllAlike key ss → ⊥) → ⊥
        open-there e (inl none) = cc (sym none ∙ ap (entry s) (sym e) ∙ alike-two q more h s t (from s (inr one.member)) (from t (inl refl)) ∙ ap (entry t) e ∙ one.there)
        open-there e (inr apart) = apart (subst (λ k. AllAlike k ss) e (alike-front q ss t h))

        by : (b : Bool) → is_eq (key_cmp q key) ≡ b → ⊥
        by true c = open-there (equal-keys q key c) one.open_at
        by false c = at_keys.apart q (ap is_some (sym (put-elsewhere key x kept.differing q c)) ∙ differs) (alike-front q ss t h)

    -- the first state has nothing there that all have
    agreed-put : without kept.differing base ≡ without (put key_cmp key x kept.differing) base
    agreed-put = filter-alike (λ e. is_none (entry kept.differing e.0)) (λ e. is_none (entry (put key_cmp key x kept.differing) e.0)) base (λ e m. by e m (is_eq (key_cmp e.0 key)) refl)
      where
        taken : (e : Key × ℕ) → In e base → e.0 ≡ key → (o : Option ℕ) → entry kept.differing e.0 ≡ o → is_none o ≡ false
        taken e m q (Some y) d = refl
        taken e m q None d =
            let n : In e (unconflicted ss) = subst (In e) (sym at_keys.agreed) (in_filter (λ e. is_none (entry kept.differing e.0)) e base m (ap is_none d)) in
            absurd (cc (sym (find-own (unconflicted ss) (sorted-unconflicted ss one.sorted) e n) ∙ ap (entry (unconflicted ss)) q
            ∙ unconflicted-none ss one.sorted s one.member t one.sorted_later key x one.there one.open_at (full_conflicted rows ss) one.elsewhere))

        by : (e : Key × ℕ) → In e base → (b : Bool) → is_eq (key_cmp e.0 key) ≡ b → is_none (entry kept.differing e.0) ≡ is_none (entry (put key_cmp key x kept.differing) e.0)
        by e m true c =
            let q = equal-keys e.0 key c in
            taken e m q (entry kept.differing e.0) refl ∙ sym (ap is_none (ap (entry (put key_cmp key x kept.differing)) q ∙ put-there key x kept.differing))
        by e m false c = ap is_none (sym (put-elsewhere key x kept.differing e.0 c))

    pub differ-more : (next : KeptResolution) → next.differing ≡ put key_cmp key x kept.differing → next.are_settled ≡ kept.are_settled → next.order.items ≡ order_more → DifferAtKeys rows more base next
    differ-more next grown settled items = record {
      key = key;
      there = ap (λ u. is_some (entry u key)) grown ∙ ap is_some (put-there key x kept.differing);
      apart = λ q differs h. apart-more q (ap (λ u. is_some (entry u q)) (sym grown) ∙ differs) h;
      agreed = unconflicted-more ∙ at_keys.agreed ∙ agreed-put ∙ ap (λ u. without u base) (sym grown);
      order = ap events_checked items ∙ events-more;
      known = subst (All (λ (d : CheckedEvent). d.event < length rows)) (sym items) known-more;
      settled = λ h. subst (λ u. AreSettled rows u base next.order.items) (sym grown) (subst (AreSettled rows (put key_cmp key x kept.differing) base) (sym items) (settled-more (at_keys.settled (sym settled ∙ h))));
      no_powers = ap (power_events rows) full-more ∙ no-powers rows sound v ss s t key x one;
    }
