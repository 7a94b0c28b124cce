-- Current states that stay what they were as an event is added.
use Rattle.std.proofs.Common.{◌≡◌, ◌==◌, ◌<◌, ◌≤◌, ◌||◌, ◌++◌, ◌+◌, ℕ, zero, suc, Bool, true, false, cond, not, List, [], ◌∷◌, filter, map, length, refl, sym, ap, subst, ◌∙◌, arith, eq-eqb, eqb-true}
use Rattle.std.proofs.lemmas.Bool.{lt-ltb, ltb-true}
use Rattle.std.proofs.lemmas.List.{length-append, map-append}
use Rattle.std.proofs.lemmas.List.Elements.{All-filter}
use Rattle.std.specs.Prelude.{IfSome, None, Option, Some, get_or, nat_lt, slice_get, slice_index_or, unwrap_or, if◌then◌else◌}
use Rattle.std.specs.List.{All, list_all}
use Rattle.mx_graph.specs.Graph.{IsSound}
use Rattle.mx_graph.specs.Record.{Row, is_in}
use Rattle.mx_graph.proofs.Closure.{all-in, is_in-from, is_in-to, or_left, or_right}
use Rattle.mx_graph.specs.StateMap.{State}
use Rattle.mx_orders.proofs.Members.{in_map}
use Rattle.mx_states.specs.Numbered.{state_at}
use Rattle.mx_state_res.proofs.SameMembersLemmas.{all-from, all-within, resolve-each}
use Rattle.mx_receipt.specs.Receipt.{is_accepted, resolve_in, version_in}
use Rattle.mx_receipt.specs.Judgements.{AreCovered, IsHeld, judged_in, numbers_after, numbers_at, replaced}
use Rattle.mx_receipt.specs.Resolutions.{IsResolution}
use Rattle.mx_receipt.specs.declared.snapshots.Judgement.{Judgement}
use Rattle.mx_receipt.specs.declared.verdicts.Verdict.{Verdict}
use Rattle.mx_receipt.proofs.CoverLemmas.{in-all, leads_further-down}
use Rattle.mx_receipt.proofs.HeldLemmas.{after-numbers, all-tail, grown-length, grown-state, judged-length, numbered}
use Rattle.mx_receipt.proofs.KeptLemmas.{current-is}
use Rattle.mx_receipt.proofs.RemovalLemmas.{is_in-more}
use Rattle.mx_receipt.proofs.ResolutionLemmas.{resolution-found}
use Rattle.mx_receipt.proofs.SortedStateLemmas.{held-sorted, numbers-sorted}

-- ---- what a filter takes out

already : (b c : Bool) → (c ≡ true → b ≡ true) → (b || c) ≡ b
already true c h = refl
already false true h = sym (h refl)
already false false h = refl

or-under : (b m k c : Bool) → (m || c) ≡ (k || c) → ((b || m) || c) ≡ ((b || k) || c)
or-under true m k c h = refl
or-under false m k c h = h

or-twice : (m c : Bool) → (m || c) ≡ ((c || m) || c)
or-twice true true = refl
or-twice true false = refl
or-twice false true = refl
or-twice false false = refl

-- one that is there already
with-one : (ys : List ℕ) (a n : ℕ) → is_in ys a ≡ true → (is_in ys n || (a == n)) ≡ is_in ys n
with-one ys a n h = already (is_in ys n) (a == n) (λ e. ap (is_in ys) (sym (eqb-true a n e)) ∙ h)

module _ (test : ℕ → Bool) where
  filter-fewer : (xs : List ℕ) → length (filter test xs) ≤ length xs
  filter-fewer [] = omega arith
  filter-fewer (x ∷ xs) = by (filter-fewer xs) (test x)
    where
      by : length (filter test xs) ≤ length xs → (b : Bool) → length (cond b (x ∷ filter test xs) (filter test xs)) ≤ length (x ∷ xs)
      by h true = omega arith
      by h false = omega arith

  -- as many are all
  filter-whole : (xs : List ℕ) → length xs ≤ length (filter test xs) → filter test xs ≡ xs
  filter-whole [] l = refl
  filter-whole (x ∷ xs) l = by (filter-whole xs) (test x) l
    where
      by : (length xs ≤ length (filter test xs) → filter test xs ≡ xs) → (b : Bool) → length (x ∷ xs) ≤ length (cond b (x ∷ filter test xs) (filter test xs)) → cond b (x ∷ filter test xs) (filter test xs) ≡ x ∷ xs
      by rest true m = ap (λ ys. x ∷ ys) (rest (omega arith))
      by rest false m = absurd (let fewer : length (filter test xs) ≤ length xs = filter-fewer xs in omega arith)

  module _ (f : ℕ → ℕ) (a : ℕ) (out : (p : ℕ) → test p ≡ false → f p ≡ a) where
    -- where some are taken out, what all of those lead to was there
    out-in : (xs : List ℕ) → length (filter test xs) < length xs → is_in (map f xs) a ≡ true
    out-in [] l = absurd (omega arith)
    out-in (x ∷ xs) l = by (out-in xs) (test x) refl l
      where
        by : (length (filter test xs) < length xs → is_in (map f xs) a ≡ true) → (b : Bool) → test x ≡ b → length (cond b (x ∷ filter test xs) (filter test xs)) < length (x ∷ xs) → is_in (map f (x ∷ xs)) a ≡ true
        by rest true e m = or_right (f x == a) (is_in (map f xs) a) (rest (omega arith))
        by rest false e m = or_left (f x == a) (is_in (map f xs) a) (eq-eqb (f x) a (out x e))

    -- and with it the others lead to as much
    out-more : (xs : List ℕ) (n : ℕ) → (is_in (map f (filter test xs)) n || (a == n)) ≡ (is_in (map f xs) n || (a == n))
    out-more [] n = refl
    out-more (x ∷ xs) n = by (out-more xs n) (test x) refl
      where
        by : (is_in (map f (filter test xs)) n || (a == n)) ≡ (is_in (map f xs) n || (a == n)) → (b : Bool) → test x ≡ b
            → (is_in (map f (cond b (x ∷ filter test xs) (filter test xs))) n || (a == n)) ≡ (is_in (map f (x ∷ xs)) n || (a == n))
        by rest true e = or-under (f x == n) (is_in (map f (filter test xs)) n) (is_in (map f xs) n) (a == n) rest
        by rest false e = rest ∙ or-twice (is_in (map f xs) n) (a == n) ∙ ap (λ y. ((y == n) || is_in (map f xs) n) || (a == n)) (sym (out x e))

-- ---- numbers of states, with one more event

number-old : (js : List Judgement) (j : Judgement) (p : ℕ) → p < length js → slice_index_or (numbers_after (js ++ j ∷ [])) p 0 ≡ slice_index_or (numbers_after js) p 0
number-old [] j p l = absurd (omega arith)
number-old (k ∷ js) j zero l = refl
number-old (k ∷ js) j (suc p) l = number-old js j p (omega arith)

number-new : (js : List Judgement) (j : Judgement) → slice_index_or (numbers_after (js ++ j ∷ [])) (length js) 0 ≡ j.after
number-new [] j = refl
number-new (k ∷ js) j = number-new js j

numbers-old : (js : List Judgement) (j : Judgement) (events : List ℕ) → All (λ p. p < length js) events → numbers_at (js ++ j ∷ []) events ≡ numbers_at js events
numbers-old js j [] h = refl
numbers-old js j (p ∷ events) h = λ i.
    number-old js j p (h 0 p (omega arith)) i ∷ numbers-old js j events (all-tail (λ q. q < length js) p events h) i

numbers-push : (js : List Judgement) (j : Judgement) (events : List ℕ) → All (λ p. p < length js) events → numbers_at (js ++ j ∷ []) (events ++ length js ∷ []) ≡ numbers_at js events ++ j.after ∷ []
numbers-push js j events h =
    map-append (λ p. slice_index_or (numbers_after (js ++ j ∷ [])) p 0) events (length js ∷ []) ∙ λ i. numbers-old js j events h i ++ number-new js j i ∷ []

-- what stands at a place of a list is in it
pub place-in : (xs : List ℕ) (k x : ℕ) → slice_get xs k ≡ Some x → is_in xs x ≡ true
place-in [] k x e = absurd (cc e)
place-in (y ∷ xs) zero x e = or_left (y == x) (is_in xs x) (eq-eqb y x (ap (λ o. unwrap_or o 0) e))
place-in (y ∷ xs) (suc k) x e = or_right (y == x) (is_in xs x) (place-in xs k x e)

pub number-at : (js : List Judgement) (p : ℕ) (d : Judgement) → p < length js → slice_index_or (numbers_after js) p 0 ≡ (get_or js p d).after
number-at [] p d l = absurd (omega arith)
number-at (j ∷ js) zero d l = refl
number-at (j ∷ js) (suc p) d l = number-at js p d (omega arith)

-- the number of an event's state is among those of the events
pub in-numbers : (js : List Judgement) (events : List ℕ) (p n : ℕ) → is_in events p ≡ true → slice_index_or (numbers_after js) p 0 ≡ n → is_in (numbers_at js events) n ≡ true
in-numbers js events p n e is =
    subst (λ m. is_in (numbers_at js events) m ≡ true) is
    (is_in-from (slice_index_or (numbers_after js) p 0) (numbers_at js events) (in_map (λ q. slice_index_or (numbers_after js) q 0) p events (is_in-to p events e)))

-- ---- the states after the extremities

module _ (js : List Judgement) (j : Judgement) (exts covered next : List ℕ) (below : All (λ p. p < length js) exts) (are : next ≡ replaced j.verdict covered exts (length js)) where
  abbrev number : ℕ → ℕ
  number p = slice_index_or (numbers_after js) p 0

  abbrev left : ℕ → Bool
  left p = not (is_in covered p)

  -- an event that is not accepted changes none
  pub same-unaccepted : is_accepted j.verdict ≡ false → (n : ℕ) → is_in (numbers_at (js ++ j ∷ []) next) n ≡ is_in (numbers_at js exts) n
  same-unaccepted e n =
      ap (λ xs. is_in (numbers_at (js ++ j ∷ []) xs) n) (are ∙ ap (λ b. if b then filter left exts ++ length js ∷ [] else exts) e)
      ∙ ap (λ xs. is_in xs n) (numbers-old js j exts below)

  module _ (accepted : is_accepted j.verdict ≡ true) where
    next-are : next ≡ filter left exts ++ length js ∷ []
    next-are = are ∙ ap (λ b. if b then filter left exts ++ length js ∷ [] else exts) accepted

    next-length : length next ≡ length (filter left exts) + 1
    next-length = ap length next-are ∙ length-append (filter left exts) (length js ∷ [])

    with-event : (n : ℕ) → is_in (numbers_at (js ++ j ∷ []) next) n ≡ (is_in (map number (filter left exts)) n || (j.after == n))
    with-event n =
        ap (λ xs. is_in (numbers_at (js ++ j ∷ []) xs) n) next-are
        ∙ ap (λ xs. is_in xs n) (numbers-push js j (filter left exts) (All-filter left (λ p. p < length js) exts below))
        ∙ is_in-more (map number (filter left exts)) j.after n

    -- one that takes none out, and has a state that another one has
    pub same-beside : length exts < length next → is_in (numbers_at js exts) j.after ≡ true → (n : ℕ) → is_in (numbers_at (js ++ j ∷ []) next) n ≡ is_in (numbers_at js exts) n
    same-beside l has n =
        with-event n
        ∙ ap (λ xs. is_in (map number xs) n || (j.after == n)) (filter-whole left exts (let e : length next ≡ length (filter left exts) + 1 = next-length in omega arith))
        ∙ with-one (map number exts) j.after n has

    -- one that has the state of those that it takes out
    pub same-instead : length next ≤ length exts → list_all (λ n. n == j.after) (numbers_at js covered) ≡ true → (n : ℕ) → is_in (numbers_at (js ++ j ∷ []) next) n ≡ is_in (numbers_at js exts) n
    same-instead l all n =
        with-event n ∙ out-more left number j.after out exts n
        ∙ with-one (map number exts) j.after n (out-in left number j.after out exts (let e : length next ≡ length (filter left exts) + 1 = next-length in omega arith))
      where
        taken : (b : Bool) → not b ≡ false → b ≡ true
        taken true e = refl
        taken false e = absurd (cc e)

        out : (p : ℕ) → left p ≡ false → number p ≡ j.after
        out p e =
            eqb-true (number p) j.after
            (all-from (λ n. n == j.after) (map number covered) all (number p) (in_map number p covered (is_in-to p covered (taken (is_in covered p) e))))

-- ---- what they resolve to

-- extremities are judged
extremities-below : (rows : List Row) (states : List State) (js : List Judgement) (exts : List ℕ) (cur : ℕ) → IsHeld rows states js exts cur → All (λ p. p < length js) exts
extremities-below rows states js exts cur held = subst (λ n. All (λ p. p < n) exts) (judged-length states js) held.is_kept.below

-- events that have the states of the extremities resolve to the current state
pub held-stays : (rows : List Row) (old more mid : List State) (js after : List Judgement) (exts next : List ℕ) (cur : ℕ) → IsHeld rows old js exts cur → mid ≡ old ++ more
    → ((n : ℕ) → is_in (numbers_at after next) n ≡ is_in (numbers_at js exts) n) → IsResolution rows mid (numbers_at after next) cur
held-stays rows old more mid js after exts next cur held are same =
    resolution-found rows old more mid are (numbers_at after next) cur held.known
    (all-within (λ n. n < length old) (numbers_at after next) (numbers_at js exts) same (after-numbers old js exts (numbers_at js exts) held.below below refl))
    (grown-length old more mid cur are held.below_current)
    (grown-state old more mid cur are held.below_current
    ∙ current-is rows (judged_in old js) exts (state_at old cur) held.is_kept
    ∙ ap (resolve_in rows) (sym (numbered old js exts below))
    ∙ sym (resolve-each (version_in rows) rows (state_at old) (numbers_at after next) (numbers_at js exts) same
    (numbers-sorted old js exts (numbers_at js exts) (held-sorted rows old js exts cur held) below refl)))
  where
    below : All (λ p. p < length js) exts
    below = extremities-below rows old js exts cur held

-- what an event covers are rows
pub covered-known : (rows : List Row) (js : List Judgement) (prev : List ℕ) (verdict : Verdict) (found : List ℕ) → IsSound rows → All (λ p. p < length rows) prev → AreCovered rows js prev verdict found
    → All (λ p. p < length rows) found
covered-known rows js prev verdict found sound known h = by (is_accepted verdict) refl
  where
    by : (b : Bool) → is_accepted verdict ≡ b → All (λ p. p < length rows) found
    by true k =
        all-in (λ p. p < length rows) found
        (λ p e. ltb-true p (length rows) ((h.all k).least (λ q. nat_lt q (length rows))
        (λ q f. lt-ltb q (length rows) (in-all (λ p. p < length rows) prev q known f))
        (λ x y f m. let low : y < x = leads_further-down rows js sound x y m in let high : x < length rows = ltb-true x (length rows) f in lt-ltb y (length rows) (omega arith)) p e))
    by false k = subst (All (λ p. p < length rows)) (sym (h.none k)) (λ i d l. absurd (omega arith))

-- a current state, where one is known
pub known-stays : (P : ℕ → Type 0) (Q : Type 0) (cur : ℕ) (o : Option ℕ) → IfSome o (λ c. c ≡ cur) → IfSome o (λ c. Q) → (Q → P cur) → IfSome o P
known-stays P Q cur None is same h = tt
known-stays P Q cur (Some c) is same h = subst P (sym is) (h same)
