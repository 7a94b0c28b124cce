-- The states of a record are in the order of their keys.
use Rattle.std.proofs.Common.{◌≡◌, ◌<◌, ◌++◌, ℕ, zero, suc, Bool, true, false, not, List, [], ◌∷◌, filter, map, length, refl, sym, ap, subst, ◌∙◌, arith, Option, Some, None}
use Rattle.std.proofs.lemmas.List.Elements.{All-append, All-map, All-nil}
use Rattle.std.specs.Prelude.{get_or, if◌then◌else◌, option_map, slice_index_or, take, unwrap_or}
use Rattle.std.specs.FinMap.Entries.{put}
use Rattle.std.specs.List.{All}
use Rattle.mx_redact.specs.Fields.{Event}
use Rattle.mx_pdu.specs.StateKeys.{Key}
use Rattle.mx_auth.specs.Rules.{key_of}
use Rattle.mx_auth.specs.declared.versions.RoomVersion.{RoomVersion}
use Rattle.mx_graph.specs.Record.{Row, event, is_in}
use Rattle.mx_orders.specs.Mainline.{mainline, mainline_order, power_key}
use Rattle.mx_orders.specs.PowerOrder.{power_order}
use Rattle.mx_graph.specs.StateMap.{State, entry, key_cmp}
use Rattle.mx_orders.specs.StateMap.{with_event}
use Rattle.mx_state_res.specs.Numbered.{AreAdded}
use Rattle.mx_states.specs.Numbered.{state_at}
use Rattle.mx_state_res.specs.Resolution.{after_check, full_conflicted, in_every, iterative_auth_checks, power_events, resolve, unconflicted}
use Rattle.mx_states.proofs.EntryLemmas.{sorted-overwritten}
use Rattle.mx_state_res.proofs.EqualStateLemmas.{resolve-same}
use Rattle.mx_states.proofs.KeyLemmas.{Sorted, sorted-filter}
use Rattle.mx_states.proofs.PlaceLemmas.{sorted-put}
use Rattle.mx_receipt.specs.Receipt.{Kept, before_event, version_in, is_rejected, kept_at, rows_of, state_before_next, states_after, states_at, with_kept}
use Rattle.mx_receipt.specs.Judgements.{AreBelow, AreSorted, IsHeld, IsJudged, Judged, afters, judged_in, kept_of, kept_row, numbers_after}
use Rattle.mx_receipt.specs.declared.snapshots.Judgement.{Judgement}
use Rattle.mx_receipt.proofs.HeldLemmas.{added-state, numbered}

-- ---- a state with more events

by_key-sorted : (p : ℕ) (s : State) (key : Option Key) → Sorted s → Sorted (unwrap_or (option_map (λ k. put key_cmp k p s) key) s)
by_key-sorted p s None h = h
by_key-sorted p s (Some key) h = sorted-put key p s h

pub event-sorted : (s : State) (e : Event) (p : ℕ) → Sorted s → Sorted (with_event s e p)
event-sorted s e p h = by_key-sorted p s (key_of e) h

either-sorted : (b : Bool) (s t : State) → Sorted s → Sorted t → Sorted (if b then s else t)
either-sorted true s t h k = h
either-sorted false s t h k = k

kept-sorted : (s : State) (k : Kept) (p : ℕ) → Sorted s → Sorted (with_kept s k p)
kept-sorted s k p h = either-sorted (is_rejected k.verdict) s (with_event s k.event p) h (event-sorted s k.event p h)

check-sorted : (v : RoomVersion) (rows : List Row) (s : State) (p : ℕ) → Sorted s → Sorted (after_check v rows s p)
unfolding after_check
check-sorted v rows s p h = either-sorted _ (with_event s (event rows p) p) s (event-sorted s (event rows p) p h) h

checks-sorted : (v : RoomVersion) (rows : List Row) (s : State) (events : List ℕ) → Sorted s → Sorted (iterative_auth_checks v rows s events)
checks-sorted v rows s [] h = h
checks-sorted v rows s (p ∷ events) h = checks-sorted v rows (after_check v rows s p) events (check-sorted v rows s p h)

-- ---- a resolution

unconflicted-sorted : (states : List State) → All Sorted states → Sorted (unconflicted states)
unfolding unconflicted
unconflicted-sorted [] h = tt
unconflicted-sorted (s ∷ states) h = sorted-filter (in_every states) s (h 0 s (omega arith))

pub resolve-sorted : (v : RoomVersion) (rows : List Row) (states : List State) → All Sorted states → Sorted (resolve v rows states)
unfolding resolve
resolve-sorted v rows states h =
    let full = full_conflicted rows states in
    let power = power_events rows full in
    let partial = iterative_auth_checks v rows (unconflicted states) (power_order rows power) in
    let order = mainline_order rows (mainline rows (entry partial power_key)) (filter (λ p. not (is_in power p)) full) in
    sorted-overwritten (unconflicted states) (iterative_auth_checks v rows partial order)
    (checks-sorted v rows partial order (checks-sorted v rows (unconflicted states) (power_order rows power) (unconflicted-sorted states h)))

-- ---- the states before and after events

at-sorted : (states : List State) (p : ℕ) → All Sorted states → Sorted (slice_index_or states p [])
at-sorted [] p h = tt
at-sorted (s ∷ states) zero h = h 0 s (omega arith)
at-sorted (s ∷ states) (suc p) h = at-sorted states p (λ k d l. h (suc k) d (omega arith))

before-sorted : (rows : List Row) (states : List State) (e : Event) → All Sorted states → Sorted (before_event rows states e)
unfolding before_event
before-sorted rows states e h = resolve-sorted (version_in rows) rows _ (All-map Sorted (λ p. slice_index_or states p []) _ (λ k d l. at-sorted states _ h))

one : (s : State) → Sorted s → All Sorted (s ∷ [])
one s h zero d l = h
one s h (suc k) d l = absurd (omega arith)

pub states-sorted : (kept : List Kept) (n : ℕ) → All Sorted (states_after kept n)
states-sorted kept zero = λ k d l. absurd (omega arith)
states-sorted kept (suc n) =
    All-append Sorted (states_after kept n) _ (states-sorted kept n)
    (one _ (kept-sorted _ (kept_at kept n) n (before-sorted (rows_of (take n kept)) (states_after kept n) (kept_at kept n).event (states-sorted kept n))))

-- ---- the states of a record, by their numbers

from-afters : (states : List State) (js : List Judgement) → All Sorted (afters (judged_in states js)) → (k : ℕ) (d : Judgement) → k < length js → Sorted (state_at states (get_or js k d).after)
from-afters states [] h k d l = absurd (omega arith)
from-afters states (j ∷ js) h zero d l = h 0 [] (omega arith)
from-afters states (j ∷ js) h (suc k) d l = from-afters states js (λ i e m. h (suc i) e (omega arith)) k d (omega arith)

-- those of some of the events
after-sorted : (states : List State) (js : List Judgement) (p : ℕ) → AreSorted states js → p < length js → Sorted (state_at states (slice_index_or (numbers_after js) p 0))
after-sorted states [] p h l = absurd (omega arith)
after-sorted states (j ∷ js) zero h l = h 0 j (omega arith)
after-sorted states (j ∷ js) (suc p) h l = after-sorted states js p (λ k d m. h (suc k) d (omega arith)) (omega arith)

pub numbers-sorted : (states : List State) (js : List Judgement) (events numbers : List ℕ) → AreSorted states js → All (λ p. p < length js) events
    → numbers ≡ map (λ p. slice_index_or (numbers_after js) p 0) events → All (λ n. Sorted (state_at states n)) numbers
numbers-sorted states js events numbers sorted h are =
    subst (All (λ n. Sorted (state_at states n))) (sym are)
    (All-map (λ n. Sorted (state_at states n)) (λ p. slice_index_or (numbers_after js) p 0) events (λ k d l. after-sorted states js (get_or events k d) sorted (h k d l)))

pub number-is : (js : List Judgement) (p : ℕ) (d : Judgement) → p < length js → (slice_index_or js p d).after ≡ slice_index_or (numbers_after js) p 0
number-is [] p d l = absurd (omega arith)
number-is (j ∷ js) zero d l = refl
number-is (j ∷ js) (suc p) d l = number-is js p d (omega arith)

pub only-one : (xs : List ℕ) (x : ℕ) → 0 < length xs → length xs < 2 → x ≡ get_or xs 0 x → xs ≡ x ∷ []
only-one [] x l m e = absurd (omega arith)
only-one (y ∷ []) x l m e = ap (λ z. z ∷ []) (sym e)
only-one (y ∷ z ∷ xs) x l m e = absurd (omega arith)

-- of the state after one event alone the resolution is that state
pub one-after : (v : RoomVersion) (rows : List Row) (states : List State) (js : List Judgement) (events : List ℕ) (event : ℕ) → events ≡ event ∷ [] → AreSorted states js → All (λ p. p < length js) events
    → state_at states (slice_index_or (numbers_after js) event 0) ≡ resolve v rows (states_at (afters (judged_in states js)) events)
one-after v rows states js events event is sorted h =
    let s = state_at states (slice_index_or (numbers_after js) event 0) in
    let in_order : All (λ n. Sorted (state_at states n)) (slice_index_or (numbers_after js) event 0 ∷ []) =
    subst (λ es. All (λ n. Sorted (state_at states n)) (map (λ p. slice_index_or (numbers_after js) p 0) es)) is
    (numbers-sorted states js events (map (λ p. slice_index_or (numbers_after js) p 0) events) sorted h refl) in
    sym (resolve-same v rows s (in_order 0 0 (omega arith)) [] (All-nil (λ t. t ≡ s)))
    ∙ ap (λ es. resolve v rows (map (state_at states) (map (λ p. slice_index_or (numbers_after js) p 0) es))) (sym is)
    ∙ ap (resolve v rows) (numbered states js events h)

-- with an event that is added
pub sorted-push : (rows : List Row) (old mid : List State) (js : List Judgement) (j : Judgement) → AreAdded rows old mid → AreBelow (length old) js → AreSorted old js → Sorted (state_at mid j.after)
    → AreSorted mid (js ++ j ∷ [])
sorted-push rows old mid js j added below sorted h =
    All-append (λ (i : Judgement). Sorted (state_at mid i.after)) js (j ∷ [])
    (λ k d l. subst Sorted (sym (added-state rows old mid (get_or js k d).after added (below k d l).1)) (sorted k d l)) only
  where
    only : AreSorted mid (j ∷ [])
    only zero d l = h
    only (suc k) d l = absurd (omega arith)

module _ (rows : List Row) (states : List State) (js : List Judgement) (exts : List ℕ) (cur : ℕ) (held : IsHeld rows states js exts cur) where
  pub held-sorted : AreSorted states js
  held-sorted = from-afters states js (subst (All Sorted) (sym held.is_kept.afters) (states-sorted (kept_of rows (judged_in states js)) (length (judged_in states js))))

  -- an event that is judged
  pub judged-sorted : (r : Row) (j : Judged) (next : List ℕ) → IsJudged rows (judged_in states js) exts r j next → Sorted j.after
  unfolding state_before_next
  judged-sorted r j next h =
      subst Sorted (sym h.after)
      (kept-sorted j.before (kept_row r j) (length rows)
      (subst Sorted (sym h.before)
      (before-sorted (rows_of (kept_of rows (judged_in states js))) (states_after (kept_of rows (judged_in states js)) (length (kept_of rows (judged_in states js)))) r.event
      (states-sorted (kept_of rows (judged_in states js)) (length (kept_of rows (judged_in states js)))))))
