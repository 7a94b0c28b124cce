-- Checks after an event was put at a key, beside those without it.
use Rattle.std.proofs.Common.{◌≡◌, ℕ, Bool, true, false, cond, List, [], ◌∷◌, Option, Some, None, refl, sym, ap, subst, ◌∙◌}
use Rattle.std.specs.Prelude.{option_map, unwrap_or, if◌then◌else◌}
use Rattle.std.specs.Ordering.{is_eq, eq_by_cmp}
use Rattle.std.specs.FinMap.Entries.{put}
use Rattle.mx_redact.specs.Fields.{is_some_and}
use Rattle.mx_pdu.specs.StateKeys.{Key}
use Rattle.mx_auth.specs.Rules.{key_of}
use Rattle.mx_auth.specs.declared.versions.RoomVersion.{RoomVersion}
use Rattle.mx_graph.specs.Record.{Row, event}
use Rattle.mx_graph.specs.StateMap.{State, key_cmp, entry}
use Rattle.mx_orders.specs.StateMap.{with_event}
use Rattle.mx_state_res.specs.Resolution.{after_check, iterative_auth_checks}
use Rattle.mx_state_res.specs.LaterResolution.{is_put, stays}
use Rattle.mx_states.proofs.KeyLemmas.{Sorted, key_cmp-itself}
use Rattle.mx_states.proofs.EntryLemmas.{entry-put, equal-keys, same-states}
use Rattle.mx_state_res.proofs.LaterStateLemmas.{sorted-put}

-- ---- two events put

pub put-twice : (k : Key) (x p : ℕ) (s : State) → Sorted s → put key_cmp k p (put key_cmp k x s) ≡ put key_cmp k p s
put-twice k x p s h =
    same-states (put key_cmp k p (put key_cmp k x s)) (put key_cmp k p s) (sorted-put k p (put key_cmp k x s) (sorted-put k x s h)) (sorted-put k p s h)
    (λ q. entry-put q k p (put key_cmp k x s) ∙ ap (cond (is_eq (key_cmp q k)) (Some p)) (entry-put q k x s) ∙ by (is_eq (key_cmp q k)) (entry s q) ∙ sym (entry-put q k p s))
  where
    by : (b : Bool) (o : Option ℕ) → cond b (Some p) (cond b (Some x) o) ≡ cond b (Some p) o
    by true o = refl
    by false o = refl

put-swapped : (j k : Key) (x p : ℕ) (s : State) → Sorted s → eq_by_cmp key_cmp k j ≡ false → put key_cmp j p (put key_cmp k x s) ≡ put key_cmp k x (put key_cmp j p s)
put-swapped j k x p s h other =
    same-states (put key_cmp j p (put key_cmp k x s)) (put key_cmp k x (put key_cmp j p s))
    (sorted-put j p (put key_cmp k x s) (sorted-put k x s h)) (sorted-put k x (put key_cmp j p s) (sorted-put j p s h))
    (λ q. entry-put q j p (put key_cmp k x s) ∙ ap (cond (is_eq (key_cmp q j)) (Some p)) (entry-put q k x s)
    ∙ by q (is_eq (key_cmp q j)) refl (is_eq (key_cmp q k)) refl (entry s q)
    ∙ ap (cond (is_eq (key_cmp q k)) (Some x)) (sym (entry-put q j p s)) ∙ sym (entry-put q k x (put key_cmp j p s)))
  where
    differ : (q : Key) → is_eq (key_cmp q j) ≡ true → is_eq (key_cmp q k) ≡ true → ⊥
    differ q a b =
        let e : k ≡ j = sym (equal-keys q k b) ∙ equal-keys q j a in
        cc (sym (ap is_eq (key_cmp-itself k)) ∙ ap (λ z. is_eq (key_cmp k z)) e ∙ other)

    by : (q : Key) (b : Bool) → is_eq (key_cmp q j) ≡ b → (c : Bool) → is_eq (key_cmp q k) ≡ c → (o : Option ℕ) → cond b (Some p) (cond c (Some x) o) ≡ cond c (Some x) (cond b (Some p) o)
    by q true a true b o = absurd (differ q a b)
    by q true a false b o = refl
    by q false a c b o = refl

-- an event that is put elsewhere goes past it
pub put-beside : (k : Key) (x p : ℕ) (s : State) (o : Option Key) → Sorted s → is_some_and (eq_by_cmp key_cmp k) o ≡ false
    → unwrap_or (option_map (λ key. put key_cmp key p (put key_cmp k x s)) o) (put key_cmp k x s) ≡ put key_cmp k x (unwrap_or (option_map (λ key. put key_cmp key p s) o) s)
put-beside k x p s None h e = refl
put-beside k x p s (Some j) h e = put-swapped j k x p s h e

-- ---- the checks

-- what an event that was put makes of checks
abbrev pub IsEnd : Key → ℕ → Option Bool → State → State → Type 0
IsEnd k x None with_it without_it = Unit {0}
IsEnd k x (Some true) with_it without_it = with_it ≡ put key_cmp k x without_it
IsEnd k x (Some false) with_it without_it = with_it ≡ without_it

pub sorted-with : (o : Option Key) (p : ℕ) (s : State) → Sorted s → Sorted (unwrap_or (option_map (λ key. put key_cmp key p s) o) s)
sorted-with None p s h = h
sorted-with (Some k) p s h = sorted-put k p s h

module _ (v : RoomVersion) (rows : List Row) where
  pub sorted-checks : (ps : List ℕ) (s : State) → Sorted s → Sorted (iterative_auth_checks v rows s ps)
  unfolding after_check
  sorted-checks [] s h = h
  sorted-checks (p ∷ ps) s h = sorted-checks ps (after_check v rows s p) (by (is_put v rows s p))
    where
      by : (b : Bool) → Sorted (if b then with_event s (event rows p) p else s)
      by true = sorted-with (key_of (event rows p)) p s h
      by false = h

  module _ (k : Key) (x : ℕ) where
    abbrev checks : State → List ℕ → State
    checks s ps = iterative_auth_checks v rows s ps

    abbrev Ends : State → List ℕ → Type 0
    Ends s ps = IsEnd k x (stays v rows k x s ps) (checks (put key_cmp k x s) ps) (checks s ps)

    -- an event that is put in both
    put-both : (p : ℕ) (ps : List ℕ) (s : State) → Sorted s → ((t : State) → Sorted t → Ends t ps) → (o : Option Key) (b : Bool) → is_some_and (eq_by_cmp key_cmp k) o ≡ b
        → IsEnd k x (if b then Some false else stays v rows k x (unwrap_or (option_map (λ key. put key_cmp key p s) o) s) ps)
        (checks (unwrap_or (option_map (λ key. put key_cmp key p (put key_cmp k x s)) o) (put key_cmp k x s)) ps)
        (checks (unwrap_or (option_map (λ key. put key_cmp key p s) o) s) ps)
    put-both p ps s h later None true e = absurd (cc e)
    put-both p ps s h later None false e = later s h
    put-both p ps s h later (Some j) true e =
        let q : k ≡ j = equal-keys k j e in
        ap (λ t. checks t ps) (ap (λ z. put key_cmp z p (put key_cmp k x s)) (sym q) ∙ put-twice k x p s h ∙ ap (λ z. put key_cmp z p s) q)
    put-both p ps s h later (Some j) false e =
        subst (λ t. IsEnd k x (stays v rows k x (put key_cmp j p s) ps) (checks t ps) (checks (put key_cmp j p s) ps)) (sym (put-swapped j k x p s h e))
        (later (put key_cmp j p s) (sorted-put j p s h))

    pub ends : (ps : List ℕ) (s : State) → Sorted s → Ends s ps
    unfolding after_check
    ends [] s h = refl
    ends (p ∷ ps) s h = by (λ t g. ends ps t g) (is_put v rows s p) (is_put v rows (put key_cmp k x s) p)
      where
        by : ((t : State) → Sorted t → Ends t ps) → (a b : Bool)
            → IsEnd k x
            (if a then (if b then (if is_some_and (eq_by_cmp key_cmp k) (key_of (event rows p)) then Some false else stays v rows k x (with_event s (event rows p) p) ps) else None)
            else (if b then None else stays v rows k x s ps))
            (checks (if b then with_event (put key_cmp k x s) (event rows p) p else put key_cmp k x s) ps) (checks (if a then with_event s (event rows p) p else s) ps)
        by later true true = put-both p ps s h later (key_of (event rows p)) (is_some_and (eq_by_cmp key_cmp k) (key_of (event rows p))) refl
        by later true false = tt
        by later false true = tt
        by later false false = later s h
