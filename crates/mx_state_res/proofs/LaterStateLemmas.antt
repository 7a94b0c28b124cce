-- What one state more changes in what is in conflict: an event.
use Rattle.std.proofs.Common.{◌≡◌, ℕ, ◌==◌, ◌<◌, Bool, true, false, cond, not, ◌&&◌, ◌||◌, ◌⊎◌, inl, inr, List, [], ◌∷◌, filter, flat_map, map, length, Some, None, Option, refl, sym, ap, subst, ◌∙◌, eq-eqb, eqb-true}
use Rattle.std.specs.Prelude.{IfSome}
use Rattle.std.specs.List.{list_any, list_all}
use Rattle.std.specs.Ordering.{is_eq}
use Rattle.std.specs.FinMap.Entries.{put, is_sorted-put}
use Rattle.mx_redact.specs.Fields.{is_some_and}
use Rattle.mx_pdu.specs.StateKeys.{Key}
use Rattle.mx_graph.specs.Record.{Row, is_in, places}
use Rattle.mx_graph.specs.Graph.{IsClosed, IsSound, auth_chain}
use Rattle.mx_graph.proofs.Members.{In, in_filter, in_filter-parts, in_flat_map, in_flat_map-from}
use Rattle.mx_graph.proofs.Closure.{or_cases, or_left, or_right, is_in-from, is_in-to, in_places, same_tests}
use Rattle.mx_graph.specs.StateMap.{State, key_cmp, entry, events_of}
use Rattle.mx_orders.proofs.Members.{in_map, in_map-from}
use Rattle.mx_state_res.specs.ChainDifference.{cites}
use Rattle.mx_state_res.specs.LaterResolution.{CitesWithin, IsAside, is_reached}
use Rattle.mx_states.specs.Numbered.{AllAlike}
use Rattle.mx_states.specs.Entries.{has_entry}
use Rattle.mx_state_res.specs.Resolution.{in_every, unconflicted, conflicted, auth_difference, full_conflicted}
use Rattle.mx_state_res.proofs.TestLemmas.{and-true, and-false, one-answer}
use Rattle.mx_states.proofs.KeyLemmas.{Sorted, key_cmp-total, key_cmp-itself}
use Rattle.mx_state_res.proofs.SetLemmas.{all-of, is_in-filter}
use Rattle.mx_states.proofs.EntryLemmas.{entry-put, equal-keys, same-states}
use Rattle.mx_states.proofs.DifferingLemmas.{has-found}
use Rattle.mx_state_res.proofs.EqualStateLemmas.{find-own}
use Rattle.mx_state_res.proofs.NumberedConflictLemmas.{agreed-all, find-in}
use Rattle.mx_state_res.proofs.SharedLemmas.{every-at}
use Rattle.mx_state_res.proofs.ChainLemmas.{chain-least}
use Rattle.mx_state_res.proofs.SameMembersLemmas.{any-to, all-from, entry-same, sorted-unconflicted}

-- ---- truth values

merged : (c a b : Bool) → (c ≡ true → a ≡ true) → (b ≡ true → c ≡ true) → ((c || a) && not (c && b)) ≡ (a && not b)
merged true true b h g = refl
merged true false b h g = absurd (cc (h refl))
merged false a true h g = absurd (cc (g refl))
merged false a false h g = refl

both-second : (a b : Bool) → (a && b) ≡ true → b ≡ true
both-second true b h = h
both-second false b h = absurd (cc h)

never-both : (i : Bool) → (i && false) ≡ false
never-both true = refl
never-both false = refl

-- what is in some of the chains and not in all is so with one chain more
wider : (i c a b : Bool) → (i && (a && not b)) ≡ true → (i && ((c || a) && not (c && b))) ≡ true
wider i true true false h = h
wider i false true false h = h
wider i c false b h = absurd (cc (sym (never-both i) ∙ h))
wider i c true true h = absurd (cc (sym (never-both i) ∙ h))

or-true : (b : Bool) → (b || true) ≡ true
or-true true = refl
or-true false = refl

held : (i o d : Bool) → i ≡ true → (o ≡ true) ⊎ (d ≡ true) → (i && ((i && o) || d)) ≡ true
held i o d e (inl f) = λ j. e j && ((e j && f j) || d)
held i o d e (inr f) = (λ j. e j && ((e j && o) || f j)) ∙ or-true o

longer : (i o d o' d' : Bool) → i ≡ true → (o ≡ true) ⊎ (d ≡ true) → (o ≡ true → o' ≡ true) → (d ≡ true → d' ≡ true) → (i && ((i && o') || d')) ≡ true
longer i o d o' d' e (inl h) f g = held i o' d' e (inl (f h))
longer i o d o' d' e (inr h) f g = held i o' d' e (inr (g h))

some-same : (a b : ℕ) → Some a ≡ Some b → a ≡ b
some-same a b e = cc e

-- ---- a state with an event put at a key

pub put-there : (k : Key) (x : ℕ) (s : State) → entry (put key_cmp k x s) k ≡ Some x
put-there k x s = entry-put k k x s ∙ ap (λ r. cond (is_eq r) (Some x) (entry s k)) (key_cmp-itself k)

pub put-elsewhere : (k : Key) (x : ℕ) (s : State) (q : Key) → is_eq (key_cmp q k) ≡ false → entry (put key_cmp k x s) q ≡ entry s q
put-elsewhere k x s q c = entry-put q k x s ∙ ap (λ b. cond b (Some x) (entry s q)) c

pub sorted-put : (k : Key) (x : ℕ) (s : State) → Sorted s → Sorted (put key_cmp k x s)
sorted-put k x s h = is_sorted-put key_cmp key_cmp-total k x s h

all-alike : (ss : List State) (e : Key × ℕ) → in_every ss e ≡ true → AllAlike e.0 ss
all-alike [] e h = tt
all-alike (t ∷ ts) e h =
    all-of (λ u. entry u e.0 ≡ entry t e.0) ts
    (λ u n. has-found (entry u e.0) e.1 (every-at (t ∷ ts) e h u (inr n)) ∙ sym (has-found (entry t e.0) e.1 (every-at (t ∷ ts) e h t (inl refl))))

agreed-of : (ss : List State) → ((t : State) → In t ss → Sorted t) → (t : State) → In t ss → (e : Key × ℕ) → has_entry e (unconflicted ss) ≡ in_every ss e
agreed-of [] h t m e = absurd m
agreed-of (s ∷ ss) h t m e = agreed-all s ss (h s (inl refl)) e

-- ---- where states are in conflict

abbrev others : List State → State
others ss = flat_map (filter (λ e. not (in_every ss e))) ss

other-entry : (ss : List State) (p : ℕ) → is_in (events_of (others ss)) p ≡ true → (e : Key × ℕ) × (p ≡ e.1) × (not (in_every ss e) ≡ true) × ((t : State) × In t ss × In e t)
other-entry ss p h =
    let r = in_map-from (λ (e : Key × ℕ). e.1) p (others ss) (is_in-to p (events_of (others ss)) h) in
    let q = in_flat_map-from (filter (λ e. not (in_every ss e))) r.0 ss r.1 in
    let w = in_filter-parts (λ e. not (in_every ss e)) r.0 q.0 q.2 in
    (r.0, r.2, w.1, (q.0, q.1, w.0))

other-from : (ss : List State) (p : ℕ) (e : Key × ℕ) → p ≡ e.1 → not (in_every ss e) ≡ true → (t : State) → In t ss → In e t → is_in (events_of (others ss)) p ≡ true
other-from ss p e q u t n i =
    subst (λ z. is_in (events_of (others ss)) z ≡ true) (sym q)
    (is_in-from e.1 (events_of (others ss)) (in_map (λ (e : Key × ℕ). e.1) e (others ss) (in_flat_map (filter (λ e. not (in_every ss e))) t e ss n (in_filter (λ e. not (in_every ss e)) e t i u))))

in-conflicted : (rows : List Row) (ss : List State) (p : ℕ) → is_in (conflicted rows ss) p ≡ (is_in (places rows) p && is_in (events_of (others ss)) p)
unfolding conflicted
in-conflicted rows ss p = is_in-filter (is_in (events_of (others ss))) (places rows) p

in-full : (rows : List Row) (ss : List State) (p : ℕ)
    → is_in (full_conflicted rows ss) p ≡ (is_in (places rows) p && ((is_in (places rows) p && is_in (events_of (others ss)) p) || is_in (auth_difference rows ss) p))
unfolding full_conflicted
in-full rows ss p =
    is_in-filter (λ q. is_in (conflicted rows ss) q || is_in (auth_difference rows ss) q) (places rows) p
    ∙ ap (λ b. is_in (places rows) p && (b || is_in (auth_difference rows ss) p)) (in-conflicted rows ss p)

-- ---- auth chains

-- what is in the chain of a state is in that of another or in conflict, if what its events cite is
chain-within : (rows : List Row) → IsSound rows → (full : List ℕ) (s t : State) → CitesWithin rows full s t → (p : ℕ) → is_in (auth_chain rows (events_of s)) p ≡ true → is_reached rows full t p ≡ true
chain-within rows sound full s t within = (chain-least rows (events_of s) sound).1 (is_reached rows full t) closed
  where
    onward : (p q : ℕ) → (is_in (events_of t) p || is_in (auth_chain rows (events_of t)) p) ≡ true → is_in (cites rows p) q ≡ true → is_reached rows full t q ≡ true
    onward p q h c = or_left (is_in (auth_chain rows (events_of t)) q) _ ((chain-least rows (events_of t) sound).0 p q h c)

    closed : IsClosed (cites rows) (events_of s) (is_reached rows full t)
    closed p q h c = by (or_cases (is_in (events_of s) p) (is_reached rows full t p) h)
      where
        reached : (is_in (auth_chain rows (events_of t)) p ≡ true) ⊎ ((is_in full p && is_in (events_of t) p) ≡ true) → is_reached rows full t q ≡ true
        reached (inl e) = onward p q (or_right (is_in (events_of t) p) _ e) c
        reached (inr e) = onward p q (or_left (is_in (events_of t) p) _ (both-second (is_in full p) _ e)) c

        by : (is_in (events_of s) p ≡ true) ⊎ (is_reached rows full t p ≡ true) → is_reached rows full t q ≡ true
        by (inl e) = within p q e c
        by (inr e) = reached (or_cases (is_in (auth_chain rows (events_of t)) p) _ e)

-- ---- one state more

module _ (ss : List State) (sorted : (t : State) → In t ss → Sorted t) (s : State) (m : In s ss) (later : State) (sorted_later : Sorted later) (k : Key) (x : ℕ) (there : entry later k ≡ Some x)
    (open_at : (entry s k ≡ None) ⊎ (AllAlike k ss → ⊥)) (full : List ℕ) (elsewhere : (q : Key) → is_eq (key_cmp q k) ≡ false → (entry later q ≡ entry s q) ⊎ IsAside ss full later q) where
  never : (e : Key × ℕ) → e.0 ≡ k → in_every ss e ≡ true → ⊥
  never e q h = by open_at
    where
      by : (entry s k ≡ None) ⊎ (AllAlike k ss → ⊥) → ⊥
      by (inl none) = cc (sym none ∙ ap (entry s) (sym q) ∙ has-found (entry s e.0) e.1 (every-at ss e h s m))
      by (inr apart) = apart (subst (λ j. AllAlike j ss) q (all-alike ss e h))

  pub all-sorted : (t : State) → In t (later ∷ ss) → Sorted t
  all-sorted t (inl e) = subst Sorted (sym e) sorted_later
  all-sorted t (inr n) = sorted t n

  every-later : (e : Key × ℕ) → in_every (later ∷ ss) e ≡ in_every ss e
  every-later e = by (in_every ss e) refl
    where
      same : in_every ss e ≡ true → (entry later e.0 ≡ entry s e.0) ⊎ IsAside ss full later e.0 → has_entry e later ≡ true
      same h (inl f) = ap (is_some_and (λ p. p == e.1)) f ∙ every-at ss e h s m
      same h (inr f) = absurd (f.0 (all-alike ss e h))

      has : in_every ss e ≡ true → (b : Bool) → is_eq (key_cmp e.0 k) ≡ b → has_entry e later ≡ true
      has h true c = absurd (never e (equal-keys e.0 k c) h)
      has h false c = same h (elsewhere e.0 c)

      by : (b : Bool) → in_every ss e ≡ b → (has_entry e later && in_every ss e) ≡ in_every ss e
      by false h = and-false (has_entry e later) (in_every ss e) h ∙ sym h
      by true h = and-true (has_entry e later) (in_every ss e) h ∙ has h (is_eq (key_cmp e.0 k)) refl ∙ sym h

  pub unconflicted-later : unconflicted (later ∷ ss) ≡ unconflicted ss
  unconflicted-later =
      same-states (unconflicted (later ∷ ss)) (unconflicted ss) (sorted-unconflicted (later ∷ ss) all-sorted) (sorted-unconflicted ss sorted)
      (entry-same (unconflicted (later ∷ ss)) (unconflicted ss) (λ e. agreed-of (later ∷ ss) all-sorted later (inl refl) e ∙ every-later e ∙ sym (agreed-of ss sorted s m e)))

  -- what is open has no entry that all have
  pub unconflicted-none : entry (unconflicted ss) k ≡ None
  unconflicted-none = by (entry (unconflicted ss) k) refl
    where
      by : (o : Option ℕ) → entry (unconflicted ss) k ≡ o → entry (unconflicted ss) k ≡ None
      by None e = e
      by (Some y) e =
          absurd (never (k, y) refl (sym (agreed-of ss sorted s m (k, y)) ∙ ap (is_some_and (λ p. p == y)) e ∙ eq-eqb y y refl))

  -- an event of another entry is another's before, or in conflict, or the new one
  others-to : (p : ℕ) → is_in (events_of (others (later ∷ ss))) p ≡ true → (is_in (events_of (others ss)) p ≡ true) ⊎ ((is_in full p || (x == p)) ≡ true)
  others-to p h =
      let r = other-entry (later ∷ ss) p h in
      at r.0 r.1 (ap not (sym (every-later r.0)) ∙ r.2) r.3.0 r.3.1 r.3.2
    where
      aside : (e : Key × ℕ) → p ≡ e.1 → not (in_every ss e) ≡ true → entry later e.0 ≡ Some e.1 → (entry later e.0 ≡ entry s e.0) ⊎ IsAside ss full later e.0 → (is_in (events_of (others ss)) p ≡ true) ⊎ ((is_in full p || (x == p)) ≡ true)
      aside e q u own (inl f) = inl (other-from ss p e q u s m (find-in e.0 s e.1 (sym f ∙ own)))
      aside e q u own (inr f) = inr (or_left (is_in full p) _ (ap (is_in full) q ∙ subst (λ o. IfSome o (λ y. is_in full y ≡ true)) own f.1))

      mine : (e : Key × ℕ) → p ≡ e.1 → not (in_every ss e) ≡ true → entry later e.0 ≡ Some e.1 → (b : Bool) → is_eq (key_cmp e.0 k) ≡ b → (is_in (events_of (others ss)) p ≡ true) ⊎ ((is_in full p || (x == p)) ≡ true)
      mine e q u own true c = inr (or_right (is_in full p) (x == p) (eq-eqb x p (some-same x p (sym there ∙ ap (entry later) (sym (equal-keys e.0 k c)) ∙ own ∙ ap Some (sym q)))))
      mine e q u own false c = aside e q u own (elsewhere e.0 c)

      at : (e : Key × ℕ) → p ≡ e.1 → not (in_every ss e) ≡ true → (t : State) → (t ≡ later) ⊎ In t ss → In e t → (is_in (events_of (others ss)) p ≡ true) ⊎ ((is_in full p || (x == p)) ≡ true)
      at e q u t (inl d) i = mine e q u (find-own later sorted_later e (subst (λ t. In e t) d i)) (is_eq (key_cmp e.0 k)) refl
      at e q u t (inr n) i = inl (other-from ss p e q u t n i)

  others-from : (p : ℕ) → is_in (events_of (others ss)) p ≡ true → is_in (events_of (others (later ∷ ss))) p ≡ true
  others-from p h =
      let r = other-entry ss p h in
      other-from (later ∷ ss) p r.0 r.1 (ap not (every-later r.0) ∙ r.2) r.3.0 (inr r.3.1) r.3.2

  others-new : is_in (events_of (others (later ∷ ss))) x ≡ true
  others-new = other-from (later ∷ ss) x (k, x) refl (ap not (every-later (k, x)) ∙ unshared (in_every ss (k, x)) refl) later (inl refl) (find-in k later x there)
    where
      unshared : (b : Bool) → in_every ss (k, x) ≡ b → not (in_every ss (k, x)) ≡ true
      unshared true h = absurd (never (k, x) refl h)
      unshared false h = ap not h

  module _ (rows : List Row) (sound : IsSound rows) (is_full : full ≡ full_conflicted rows ss) (cited : CitesWithin rows full later s) (cited_before : CitesWithin rows full s later) where
    abbrev chain_of : State → List ℕ
    chain_of t = auth_chain rows (events_of t)

    abbrev some_has : ℕ → Bool
    some_has p = list_any (λ chain. is_in chain p) (map chain_of ss)

    abbrev all_have : ℕ → Bool
    all_have p = list_all (λ chain. is_in chain p) (map chain_of ss)

    beyond : (p : ℕ) (c d : Bool) → is_in full p ≡ false → (c || (is_in full p && d)) ≡ true → c ≡ true
    beyond p true d none h = refl
    beyond p false d none h = absurd (cc (sym (ap (λ b. b && d) none) ∙ h))

    -- but for what is in conflict, the chains are one
    chain-later : (p : ℕ) → is_in full p ≡ false → is_in (chain_of later) p ≡ is_in (chain_of s) p
    chain-later p none =
        one-answer (is_in (chain_of later) p) (is_in (chain_of s) p) (λ h. beyond p (is_in (chain_of s) p) (is_in (events_of s) p) none (chain-within rows sound full later s cited p h))
        (λ h. beyond p (is_in (chain_of later) p) (is_in (events_of later) p) none (chain-within rows sound full s later cited_before p h))

    difference-is : (ts : List State) (p : ℕ) → is_in (auth_difference rows ts) p ≡ (is_in (places rows) p && (list_any (λ chain. is_in chain p) (map chain_of ts) && not (list_all (λ chain. is_in chain p) (map chain_of ts))))
    unfolding auth_difference
    difference-is ts p = is_in-filter (λ p. list_any (λ chain. is_in chain p) (map chain_of ts) && not (list_all (λ chain. is_in chain p) (map chain_of ts))) (places rows) p

    difference-later : (p : ℕ) → is_in full p ≡ false → is_in (auth_difference rows (later ∷ ss)) p ≡ is_in (auth_difference rows ss) p
    difference-later p none =
        difference-is (later ∷ ss) p
        ∙ ap (λ b. is_in (places rows) p && b)
        (merged (is_in (chain_of later) p) (some_has p) (all_have p)
        (λ h. any-to (λ chain. is_in chain p) (map chain_of ss) (chain_of s) (in_map chain_of s ss m) (sym (chain-later p none) ∙ h))
        (λ h. chain-later p none ∙ all-from (λ chain. is_in chain p) (map chain_of ss) h (chain_of s) (in_map chain_of s ss m)))
        ∙ sym (difference-is ss p)

    difference-from : (p : ℕ) → is_in (auth_difference rows ss) p ≡ true → is_in (auth_difference rows (later ∷ ss)) p ≡ true
    difference-from p h = difference-is (later ∷ ss) p ∙ wider (is_in (places rows) p) (is_in (chain_of later) p) (some_has p) (all_have p) (sym (difference-is ss p) ∙ h)

    full-from : (p : ℕ) → is_in (places rows) p ≡ true → (is_in (events_of (others ss)) p ≡ true) ⊎ (is_in (auth_difference rows ss) p ≡ true) → is_in (full_conflicted rows ss) p ≡ true
    full-from p i e = in-full rows ss p ∙ held (is_in (places rows) p) (is_in (events_of (others ss)) p) (is_in (auth_difference rows ss) p) i e

    -- the event is what is more in conflict
    pub full-later : x < length rows → (p : ℕ) → is_in (full_conflicted rows (later ∷ ss)) p ≡ (is_in (full_conflicted rows ss) p || (x == p))
    full-later known p = subst (λ f. is_in (full_conflicted rows (later ∷ ss)) p ≡ (is_in f p || (x == p))) is_full (one-answer (is_in (full_conflicted rows (later ∷ ss)) p) (is_in full p || (x == p)) (to (is_in full p) refl) (λ h. from (or_cases (is_in full p) (x == p) h)))
      where
        parts : (ts : List State) → is_in (full_conflicted rows ts) p ≡ true → (is_in (places rows) p ≡ true) × ((is_in (events_of (others ts)) p ≡ true) ⊎ (is_in (auth_difference rows ts) p ≡ true))
        parts ts h = by (is_in (places rows) p) (is_in (events_of (others ts)) p) (is_in (auth_difference rows ts) p) (sym (in-full rows ts p) ∙ h)
          where
            by : (i o d : Bool) → (i && ((i && o) || d)) ≡ true → (i ≡ true) × ((o ≡ true) ⊎ (d ≡ true))
            by true true d h = (refl, inl refl)
            by true false d h = (refl, inr h)
            by false o d h = absurd (cc h)

        into : (is_in (full_conflicted rows ss) p) ≡ true → (is_in full p || (x == p)) ≡ true
        into h = or_left (is_in full p) _ (ap (λ f. is_in f p) is_full ∙ h)

        to : (b : Bool) → is_in full p ≡ b → is_in (full_conflicted rows (later ∷ ss)) p ≡ true → (is_in full p || (x == p)) ≡ true
        to true e h = or_left (is_in full p) _ e
        to false e h = let r = parts (later ∷ ss) h in by r.0 r.1
          where
            before : is_in (places rows) p ≡ true → (is_in (events_of (others ss)) p ≡ true) ⊎ ((is_in full p || (x == p)) ≡ true) → (is_in full p || (x == p)) ≡ true
            before i (inl o) = into (full-from p i (inl o))
            before i (inr f) = f

            by : is_in (places rows) p ≡ true → (is_in (events_of (others (later ∷ ss))) p ≡ true) ⊎ (is_in (auth_difference rows (later ∷ ss)) p ≡ true) → (is_in full p || (x == p)) ≡ true
            by i (inl o) = before i (others-to p o)
            by i (inr d) = into (full-from p i (inr (sym (difference-later p e) ∙ d)))

        from : (is_in full p ≡ true) ⊎ ((x == p) ≡ true) → is_in (full_conflicted rows (later ∷ ss)) p ≡ true
        from (inl h) =
            let r = parts ss (ap (λ f. is_in f p) (sym is_full) ∙ h) in
            in-full rows (later ∷ ss) p
            ∙ longer (is_in (places rows) p) (is_in (events_of (others ss)) p) (is_in (auth_difference rows ss) p) (is_in (events_of (others (later ∷ ss))) p) (is_in (auth_difference rows (later ∷ ss)) p) r.0 r.1 (others-from p) (difference-from p)
        from (inr h) =
            let e : x ≡ p = eqb-true x p h in
            subst (λ q. is_in (full_conflicted rows (later ∷ ss)) q ≡ true) e
            (in-full rows (later ∷ ss) x
            ∙ longer (is_in (places rows) x) true false (is_in (events_of (others (later ∷ ss))) x) (is_in (auth_difference rows (later ∷ ss)) x) (is_in-from x (places rows) (in_places rows x known)) (inl refl) (λ _. others-new) (λ h. absurd (cc h)))
