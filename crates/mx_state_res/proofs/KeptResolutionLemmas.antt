-- Events that were checked, and one more among them.
use Rattle.std.proofs.Common.{◌≡◌, ℕ, zero, suc, ◌+◌, ◌≤◌, ◌<◌, Bool, true, false, not, List, [], ◌∷◌, ◌++◌, length, take, drop, slice_index_or, Option, Some, None, inl, inr, refl, sym, ap, subst, ◌∙◌, arith, ◌==◌, ◌&&◌, ◌||◌, cond, eq-eqb, eqb-true}
use Rattle.std.specs.Prelude.{IfSome, bytes_eq, if◌then◌else◌, is_some, option_map, slice_get}
use Rattle.std.proofs.Math.Bool.{beq}
use Rattle.std.proofs.lemmas.Bool.Decides.{Decides-eqb}
use Rattle.std.proofs.lemmas.Slice.Eq.{bytes_eq-Decides, slice_eq-Decides}
use Rattle.std.specs.List.{All}
use Rattle.std.specs.declared.cmp.Ordering.{Ordering}
use Rattle.std.specs.declared.cmp.Ordering.TheVariants.{Less, Equal, Greater}
use Rattle.std.specs.Ordering.{is_eq, is_gt, eq_by_cmp}
use Rattle.std.specs.Cmp.{IsTotalOrder, upto}
use Rattle.std.specs.FinMap.Entries.{by_order, put}
use Rattle.std.proofs.lemmas.List.{map-append}
use Rattle.std.proofs.lemmas.List.Sums.{fold-append}
use Rattle.mx_redact.specs.Fields.{Event, is_some_and, kind}
use Rattle.mx_pdu.specs.Event.{state_key_of}
use Rattle.mx_pdu.specs.StateKeys.{Key}
use Rattle.mx_auth.specs.Rules.{key_of, same_key}
use Rattle.mx_auth.specs.declared.versions.RoomVersion.{RoomVersion}
use Rattle.mx_graph.specs.Record.{Row, event, is_in}
use Rattle.mx_graph.proofs.Members.{In}
use Rattle.mx_graph.specs.StateMap.{State, entry, key_cmp}
use Rattle.mx_orders.specs.StateMap.{with_event}
use Rattle.mx_orders.specs.Mainline.{mainline_cmp, mainline_order, put_in_order}
use Rattle.mx_states.specs.Numbered.{state_at}
use Rattle.mx_state_res.specs.Resolution.{after_check, iterative_auth_checks}
use Rattle.mx_state_res.specs.LaterResolution.{is_put, stays}
use Rattle.mx_state_res.specs.KeptResolutions.{AreChecked, IsInOrder, events_checked}
use Rattle.mx_state_res.specs.declared.kept_resolutions.checked_events.CheckedEvent.{CheckedEvent}
use Rattle.mx_states.proofs.KeyLemmas.{Sorted, key_cmp-itself}
use Rattle.mx_states.proofs.KnownLemmas.{find-known}
use Rattle.mx_states.proofs.EntryLemmas.{equal-keys, same-states}
use Rattle.mx_state_res.proofs.LaterStateLemmas.{put-elsewhere, put-there, sorted-put}
use Rattle.mx_state_res.proofs.LaterCheckLemmas.{put-beside, sorted-with}
use Rattle.mx_state_res.proofs.TestLemmas.{and-first, and-make, and-second}

-- ---- events that were checked

pub checked-more : (v : RoomVersion) (rows : List Row) (cs : List CheckedEvent) (c : CheckedEvent) (s : State) → AreChecked v rows s cs → c.is_put ≡ is_put v rows (iterative_auth_checks v rows s (events_checked cs)) c.event → AreChecked v rows s (cs ++ c ∷ [])
checked-more v rows [] c s h e = (e, tt)
checked-more v rows (d ∷ cs) c s h e = (h.0, checked-more v rows cs c (after_check v rows s d.event) h.1 e)

pub checks-more : (v : RoomVersion) (rows : List Row) (cs : List CheckedEvent) (c : CheckedEvent) (s : State) → iterative_auth_checks v rows s (events_checked (cs ++ c ∷ [])) ≡ after_check v rows (iterative_auth_checks v rows s (events_checked cs)) c.event
checks-more v rows cs c s =
    ap (iterative_auth_checks v rows s) (map-append (λ (c : CheckedEvent). c.event) cs (c ∷ [])) ∙ fold-append (after_check v rows) s (events_checked cs) (c.event ∷ [])

-- ---- an event that was put among them

pub passed : (v : RoomVersion) (rows : List Row) (key : Key) (x : ℕ) (s : State) (c : CheckedEvent) (cs all : List CheckedEvent) → all ≡ c ∷ cs → c.is_put ≡ false → is_put v rows (put key_cmp key x s) c.event ≡ false → AreChecked v rows s all
    → AreChecked v rows s cs × (stays v rows key x s (events_checked all) ≡ stays v rows key x s (events_checked cs))
unfolding after_check
passed v rows key x s c cs all d e f h =
    let was : is_put v rows s c.event ≡ false = sym here.0 ∙ e in (
      subst (λ t. AreChecked v rows t cs) (ap (λ b. if b then with_event s (event rows c.event) c.event else s) was) here.1,
      ap (λ cs. stays v rows key x s (events_checked cs)) d
          ∙ (λ i. if was i then
          (if is_put v rows (put key_cmp key x s) c.event then (if is_some_and (eq_by_cmp key_cmp key) (key_of (event rows c.event)) then Some false else stays v rows key x (with_event s (event rows c.event) c.event) (events_checked cs)) else None)
          else (if f i then None else stays v rows key x s (events_checked cs))),
    )
  where
    here : AreChecked v rows s (c ∷ cs)
    here = subst (AreChecked v rows s) d h

pub replaced : (v : RoomVersion) (rows : List Row) (key : Key) (x : ℕ) (s : State) (c : CheckedEvent) (cs all : List CheckedEvent) → all ≡ c ∷ cs → c.is_put ≡ true → is_put v rows (put key_cmp key x s) c.event ≡ true → key_of (event rows c.event) ≡ Some key → AreChecked v rows s all
    → stays v rows key x s (events_checked all) ≡ Some false
replaced v rows key x s c cs all d e f k h =
    ap (λ cs. stays v rows key x s (events_checked cs)) d
    ∙ (λ i. if was i then (if f i then (if at i then Some false else stays v rows key x (with_event s (event rows c.event) c.event) (events_checked cs)) else None)
    else (if is_put v rows (put key_cmp key x s) c.event then None else stays v rows key x s (events_checked cs)))
  where
    was : is_put v rows s c.event ≡ true
    was = sym (subst (AreChecked v rows s) d h).0 ∙ e

    at : is_some_and (eq_by_cmp key_cmp key) (key_of (event rows c.event)) ≡ true
    at = ap (is_some_and (eq_by_cmp key_cmp key)) k ∙ ap is_eq (key_cmp-itself key)

pub same-itself : (k : Key) → same_key k k ≡ true
same-itself k = and-make (bytes_eq k.0 k.0) (bytes_eq k.1 k.1) ((bytes_eq-Decides k.0 k.0).1 refl) ((bytes_eq-Decides k.1 k.1).1 refl)

-- an event that stands at no such key
pub other-key : (k : Key) (o : Option Key) → is_some_and (same_key k) o ≡ false → is_some_and (eq_by_cmp key_cmp k) o ≡ false
other-key k None e = refl
other-key k (Some q) e = by (eq_by_cmp key_cmp k q) refl
  where
    by : (b : Bool) → eq_by_cmp key_cmp k q ≡ b → eq_by_cmp key_cmp k q ≡ false
    by false h = h
    by true h =
        absurd (cc (sym (same-itself k) ∙ ap (same_key k) (equal-keys k q h) ∙ e))

-- an event that is judged as it was, and is not put at the key, is passed
pub goes-on : (v : RoomVersion) (rows : List Row) (key : Key) (x : ℕ) (s after : State) (c : CheckedEvent) (cs all : List CheckedEvent) → all ≡ c ∷ cs → Sorted s → is_put v rows (put key_cmp key x s) c.event ≡ c.is_put
    → (c.is_put && is_some_and (same_key key) (key_of (event rows c.event))) ≡ false
    → after ≡ (if c.is_put then with_event (put key_cmp key x s) (event rows c.event) c.event else put key_cmp key x s) → AreChecked v rows s all
    → (t : State) × ((after ≡ put key_cmp key x t) × (Sorted t × (AreChecked v rows t cs × (stays v rows key x s (events_checked all) ≡ stays v rows key x t (events_checked cs)))))
unfolding after_check
goes-on v rows key x s after c cs all are sorted judged other is h = by c.is_put refl
  where
    here : AreChecked v rows s (c ∷ cs)
    here = subst (AreChecked v rows s) are h

    elsewhere : c.is_put ≡ true → is_some_and (eq_by_cmp key_cmp key) (key_of (event rows c.event)) ≡ false
    elsewhere m = other-key key (key_of (event rows c.event)) (ap (λ b. b && is_some_and (same_key key) (key_of (event rows c.event))) (sym m) ∙ other)

    by : (b : Bool) → c.is_put ≡ b → (t : State) × ((after ≡ put key_cmp key x t) × (Sorted t × (AreChecked v rows t cs × (stays v rows key x s (events_checked all) ≡ stays v rows key x t (events_checked cs)))))
    by true m =
        let was : is_put v rows s c.event ≡ true = sym here.0 ∙ m in
        let with_it : is_put v rows (put key_cmp key x s) c.event ≡ true = judged ∙ m in
        let apart : is_some_and (eq_by_cmp key_cmp key) (key_of (event rows c.event)) ≡ false = elsewhere m in (
          with_event s (event rows c.event) c.event,
          (
            is ∙ ap (λ b. if b then with_event (put key_cmp key x s) (event rows c.event) c.event else put key_cmp key x s) m ∙ put-beside key x c.event s (key_of (event rows c.event)) sorted apart,
            (
              sorted-with (key_of (event rows c.event)) c.event s sorted,
              (
                subst (λ t. AreChecked v rows t cs) (ap (λ b. if b then with_event s (event rows c.event) c.event else s) was) here.1,
                ap (λ ds. stays v rows key x s (events_checked ds)) are
                    ∙ (λ i. if was i then (if with_it i then (if apart i then Some false else stays v rows key x (with_event s (event rows c.event) c.event) (events_checked cs)) else None)
                    else (if is_put v rows (put key_cmp key x s) c.event then None else stays v rows key x s (events_checked cs))),
              ),
            ),
          ),
        )
    by false m =
        let r = passed v rows key x s c cs all are m (judged ∙ m) h in (
          s,
          (is ∙ ap (λ b. if b then with_event (put key_cmp key x s) (event rows c.event) c.event else put key_cmp key x s) m, (sorted, (r.0, r.1))),
        )

-- ---- events that are put again

pub again : (v : RoomVersion) (rows : List Row) (s after : State) (c : CheckedEvent) (cs all : List CheckedEvent) → all ≡ c ∷ cs → after ≡ (if c.is_put then with_event s (event rows c.event) c.event else s) → AreChecked v rows s all
    → AreChecked v rows after cs × (iterative_auth_checks v rows after (events_checked cs) ≡ iterative_auth_checks v rows s (events_checked all))
unfolding after_check
again v rows s after c cs all are is h =
    let here : AreChecked v rows s (c ∷ cs) = subst (AreChecked v rows s) are h in
    let next : after_check v rows s c.event ≡ after = ap (λ b. if b then with_event s (event rows c.event) c.event else s) (sym here.0) ∙ sym is in (
      subst (λ t. AreChecked v rows t cs) next here.1,
      ap (λ t. iterative_auth_checks v rows t (events_checked cs)) (sym next) ∙ ap (λ ds. iterative_auth_checks v rows s (events_checked ds)) (sym are),
    )

-- ---- the place of an event

not-greater : {A : Type 0} (r : Ordering) (a b : A) → is_gt r ≡ false → by_order r a a b ≡ a
not-greater Less a b e = refl
not-greater Equal a b e = refl
not-greater Greater a b e = absurd (cc e)

greater : {A : Type 0} (r : Ordering) (a b : A) → is_gt r ≡ true → by_order r a a b ≡ b
greater Less a b e = absurd (cc e)
greater Equal a b e = absurd (cc e)
greater Greater a b e = refl

module _ (cmp : ℕ → ℕ → Ordering) (o : IsTotalOrder cmp) (x : ℕ) where
  pub placed-is : (xs : List ℕ) (i : ℕ) → IsInOrder cmp xs → i ≤ length xs → ((k : ℕ) → i ≡ k + 1 → is_gt (cmp x (slice_index_or xs k 0)) ≡ true) → (i < length xs → is_gt (cmp x (slice_index_or xs i 0)) ≡ false)
      → put_in_order cmp x xs ≡ take i xs ++ (x ∷ drop i xs)
  placed-is [] zero h l before behind = refl
  placed-is [] (suc i) h l before behind = absurd (omega arith)
  placed-is (y ∷ ys) zero h l before behind = not-greater (cmp x y) (x ∷ y ∷ ys) (y ∷ put_in_order cmp x ys) (behind (omega arith))
  placed-is (y ∷ ys) (suc i) h l before behind =
      greater (cmp x y) (x ∷ y ∷ ys) (y ∷ put_in_order cmp x ys) (first (is_gt (cmp x y)) refl)
      ∙ ap (λ zs. y ∷ zs) (placed-is ys i (λ j k m n. h (suc j) (suc k) (omega arith) (omega arith)) (omega arith) (λ k e. before (suc k) (omega arith)) (λ m. behind (omega arith)))
    where
      first : (b : Bool) → is_gt (cmp x y) ≡ b → is_gt (cmp x y) ≡ true
      first true e = e
      first false e =
          let last : is_gt (cmp x (slice_index_or (y ∷ ys) i 0)) ≡ true = before i (omega arith) in
          let up : is_gt (cmp y (slice_index_or (y ∷ ys) i 0)) ≡ false = h zero i (omega arith) (omega arith) in
          absurd (cc (sym last ∙ upto o x y (slice_index_or (y ∷ ys) i 0) e up))

-- ---- keys

pub bytes-same : (xs ys : List ℕ) → bytes_eq xs ys ≡ true → xs ≡ ys
bytes-same xs ys e = (slice_eq-Decides Decides-eqb xs ys true (sym e)).0 refl

pub at-key : (k : Key) (o : Option Key) → is_some_and (same_key k) o ≡ true → o ≡ Some k
at-key k None e = absurd (cc e)
at-key k (Some q) e = λ i. Some (sym (bytes-same k.0 q.0 (and-first (bytes_eq k.0 q.0) (bytes_eq k.1 q.1) e)) i, sym (bytes-same k.1 q.1 (and-second (bytes_eq k.0 q.0) (bytes_eq k.1 q.1) e)) i)

pub entry-known : (n : ℕ) (s : State) (k : Key) (p : ℕ) → All (λ e. e.1 < n) s → entry s k ≡ Some p → p < n
entry-known n s k p h e = subst (λ o. IfSome o (λ q. q < n)) e (find-known key_cmp (λ q. q < n) k s h)

-- a map that is not empty has an entry
pub has-first : (d : State) (e : Key × ℕ) → slice_get d 0 ≡ Some e → is_some (entry d e.0) ≡ true
has-first [] e h = absurd (cc h)
has-first (a ∷ d) e h =
    let same : a ≡ e = cc h in
    ap (λ (q : Key × ℕ). is_some (entry (a ∷ d) q.0)) (sym same) ∙ ap (λ r. is_some (cond (is_eq r) (Some a.1) (entry d a.0))) (key_cmp-itself a.0)

-- a map of one entry has no other
pub one-entry : (d : State) (k q : Key) → length d ≡ 1 → is_some (entry d k) ≡ true → is_eq (key_cmp q k) ≡ false → entry d q ≡ None
one-entry [] k q l e other = absurd (cc l)
one-entry (a ∷ b ∷ d) k q l e other = absurd (omega (arith, l))
one-entry (a ∷ []) k q l e other = none (is_eq (key_cmp q a.0)) refl (there (is_eq (key_cmp k a.0)) refl)
  where
    nothing : Option ℕ
    nothing = None

    there : (b : Bool) → is_eq (key_cmp k a.0) ≡ b → is_eq (key_cmp k a.0) ≡ true
    there true c = c
    there false c = absurd (cc (sym (ap (λ b. is_some (cond b (Some a.1) nothing)) c) ∙ e))

    none : (b : Bool) → is_eq (key_cmp q a.0) ≡ b → is_eq (key_cmp k a.0) ≡ true → entry (a ∷ []) q ≡ None
    none true c h = absurd (cc (sym (ap (λ z. is_eq (key_cmp q z)) (equal-keys k a.0 h) ∙ c) ∙ other))
    none false c h = ap (λ b. cond b (Some a.1) nothing) c

-- nor at another key than its first
pub only-entry : (d : State) (e : Key × ℕ) (q : Key) → slice_get d 0 ≡ Some e → length d ≡ 1 → is_eq (key_cmp q e.0) ≡ false → entry d q ≡ None
only-entry d e q h l other = one-entry d e.0 q l (has-first d e h) other

-- the key of a row
pub row-key : (e : Event) (kind_is state_key : List ℕ) → kind_is ≡ kind e → Some state_key ≡ state_key_of e → key_of e ≡ Some (kind_is, state_key)
row-key e kind_is state_key k s = ap (option_map (λ (q : List ℕ). (kind e, q))) (sym s) ∙ (λ i. Some (sym k i, state_key))

-- ---- the order of two events

pub order-of-two : (rows : List Row) (line : List ℕ) (a b : ℕ) → mainline_order rows line (a ∷ b ∷ []) ≡ by_order (mainline_cmp rows line a b) (a ∷ b ∷ []) (a ∷ b ∷ []) (b ∷ a ∷ [])
unfolding mainline_order
order-of-two rows line a b = refl

pub first-of-two : (r : Ordering) (a b : ℕ) (xs : List ℕ) (f : ℕ) → xs ≡ by_order r (a ∷ b ∷ []) (a ∷ b ∷ []) (b ∷ a ∷ []) → slice_get xs 0 ≡ Some f → ((b == a) || false) ≡ false → (f == a) ≡ not (is_gt r)
first-of-two Less a b xs f e g n = (let h : Some a ≡ Some f = ap (λ ys. slice_get ys 0) (sym e) ∙ g in eq-eqb f a (sym (cc h)))
first-of-two Equal a b xs f e g n = (let h : Some a ≡ Some f = ap (λ ys. slice_get ys 0) (sym e) ∙ g in eq-eqb f a (sym (cc h)))
first-of-two Greater a b xs f e g n = (let h : Some b ≡ Some f = ap (λ ys. slice_get ys 0) (sym e) ∙ g in ap (λ z. z == a) (sym (cc h)) ∙ none (b == a) n)
  where
    none : (c : Bool) → (c || false) ≡ false → c ≡ false
    none true k = k
    none false k = k

pub none-of-two : (r : Ordering) (a b : ℕ) (xs : List ℕ) → xs ≡ by_order r (a ∷ b ∷ []) (a ∷ b ∷ []) (b ∷ a ∷ []) → slice_get xs 0 ≡ None → ⊥
none-of-two Less a b xs e g = (let h : Some a ≡ None = ap (λ ys. slice_get ys 0) (sym e) ∙ g in cc h)
none-of-two Equal a b xs e g = (let h : Some a ≡ None = ap (λ ys. slice_get ys 0) (sym e) ∙ g in cc h)
none-of-two Greater a b xs e g = (let h : Some b ≡ None = ap (λ ys. slice_get ys 0) (sym e) ∙ g in cc h)

-- ---- truth values

pub not-false : (b : Bool) → not b ≡ false → b ≡ true
not-false true e = refl
not-false false e = absurd (cc e)

pub same-truth : (a b : Bool) → not (beq a b) ≡ false → a ≡ b
same-truth true true e = refl
same-truth false false e = refl
same-truth true false e = absurd (cc e)
same-truth false true e = absurd (cc e)

-- the state that was added last
pub last-added : (states : List State) (t : State) → state_at (states ++ t ∷ []) (length states) ≡ t
last-added [] t = refl
last-added (s ∷ states) t = last-added states t

-- ---- events by their places

pub event-at : (cs : List CheckedEvent) (i : ℕ) (d : CheckedEvent) → i < length cs → slice_index_or (events_checked cs) i 0 ≡ (slice_index_or cs i d).event
event-at [] i d l = absurd (omega arith)
event-at (c ∷ cs) zero d l = refl
event-at (c ∷ cs) (suc i) d l = event-at cs i d (omega arith)

pub other-at : (xs : List ℕ) (i x : ℕ) → i < length xs → is_in xs x ≡ false → (slice_index_or xs i 0 == x) ≡ false
other-at [] i x l e = absurd (omega arith)
other-at (y ∷ ys) zero x l e = first (y == x) (is_in ys x) e
  where
    first : (a b : Bool) → (a || b) ≡ false → a ≡ false
    first true b k = k
    first false b k = refl
other-at (y ∷ ys) (suc i) x l e = other-at ys i x (omega arith) (second (y == x) (is_in ys x) e)
  where
    second : (a b : Bool) → (a || b) ≡ false → b ≡ false
    second true b k = absurd (cc k)
    second false b k = k

pub in-place : (xs : List ℕ) (i d : ℕ) → i < length xs → In (slice_index_or xs i d) xs
in-place [] i d l = absurd (omega arith)
in-place (x ∷ xs) zero d l = inl refl
in-place (x ∷ xs) (suc i) d l = inr (in-place xs i d (omega arith))

-- a state that differs at one key alone is the other one with its event put there
pub put-over : (s t : State) (key : Key) (x : ℕ) → Sorted s → Sorted t → entry t key ≡ Some x → ((q : Key) → is_eq (key_cmp q key) ≡ false → entry s q ≡ entry t q) → t ≡ put key_cmp key x s
put-over s t key x g h there same = same-states t (put key_cmp key x s) h (sorted-put key x s g) (λ q. by q (is_eq (key_cmp q key)) refl)
  where
    by : (q : Key) (b : Bool) → is_eq (key_cmp q key) ≡ b → entry t q ≡ entry (put key_cmp key x s) q
    by q true e = ap (entry t) (equal-keys q key e) ∙ there ∙ sym (put-there key x s) ∙ ap (entry (put key_cmp key x s)) (sym (equal-keys q key e))
    by q false e = sym (same q e) ∙ sym (put-elsewhere key x s q e)

pub if-some : {A : Type 0} (P Q : A → Type 0) (o : Option A) → ((x : A) → P x → Q x) → IfSome o P → IfSome o Q
if-some P Q None f h = tt
if-some P Q (Some x) f h = f x h

pub first-is : (xs : List ℕ) (x : ℕ) → slice_get xs 0 ≡ Some x → x ≡ slice_index_or xs 0 0
first-is [] x e = absurd (cc e)
first-is (y ∷ xs) x e = sym (cc e)

pub first-below : (n : ℕ) (xs : List ℕ) (x : ℕ) → slice_get xs 0 ≡ Some x → All (λ p. p < n) xs → x < n
first-below n [] x e h = absurd (cc e)
first-below n (y ∷ xs) x e h = let g : y ≡ x = cc e in let l : y < n = h 0 y (omega arith) in omega arith

pub none-left : (xs : List ℕ) (n : ℕ) → n ≡ length xs → (n == 0) ≡ true → xs ≡ []
none-left [] n e h = refl
none-left (x ∷ xs) n e h = let k : n ≡ 0 = eqb-true n 0 h in absurd (omega (arith, e, k))
