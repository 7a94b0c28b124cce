-- The events in conflict, from those that each state has and the first hasn't.
use Rattle.std.proofs.Common.{◌≡◌, ℕ, ◌==◌, ◌-◌, ◌<◌, Bool, true, false, cond, not, ◌||◌, ◌⊎◌, inl, inr, List, [], ◌∷◌, ◌++◌, length, filter, flat_map, map, take, drop, Option, Some, None, is_none, refl, sym, ap, ap₂, subst, ◌∙◌, Vec, arith}
use Rattle.std.specs.declared.alloc.Global.{Global}
use Rattle.std.proofs.lemmas.List.{map-append, take_all}
use Rattle.std.proofs.lemmas.List.Elements.{AllZip-push}
use Rattle.std.specs.List.{All, AllZip}
use Rattle.mx_redact.specs.Fields.{is_some_and}
use Rattle.mx_pdu.specs.StateKeys.{Key}
use Rattle.mx_graph.specs.Graph.{IsSound}
use Rattle.mx_graph.specs.Record.{Row, is_in}
use Rattle.mx_graph.specs.Edges.{Rises}
use Rattle.mx_graph.specs.StateMap.{State, entry, events_of}
use Rattle.mx_graph.proofs.Closure.{or_cases, or_left, or_right, is_in-from, is_in-to}
use Rattle.mx_graph.proofs.Members.{In, in_filter, in_filter-parts, in_flat_map, in_flat_map-from}
use Rattle.mx_orders.proofs.Members.{in_map, in_map-from}
use Rattle.mx_state_res.specs.ChainDifference.{CiteWithin, chain_difference}
use Rattle.mx_state_res.specs.Numbered.{AreKnown, HaveSameEvents, event_parts, own_events}
use Rattle.mx_state_res.specs.Resolution.{full_conflicted}
use Rattle.mx_states.specs.Entries.{has_entry}
use Rattle.mx_states.specs.Numbered.{IsDiffering, events_at, option_list, without}
use Rattle.mx_states.proofs.DifferingLemmas.{has-found}
use Rattle.mx_states.proofs.EntryLemmas.{entry-without}
use Rattle.mx_states.proofs.KeyLemmas.{Sorted}
use Rattle.mx_state_res.proofs.CitedWithinLemmas.{IsPart, difference-adds-none, within-more}
use Rattle.mx_state_res.proofs.ConflictLemmas.{lacks}
use Rattle.mx_state_res.proofs.EqualStateLemmas.{find-own}
use Rattle.mx_state_res.proofs.NumberedConflictLemmas.{at-sorted, events_at-known, find-in, full-from, lacks-at}
use Rattle.mx_state_res.proofs.SetLemmas.{all-at, all-of, flat_map-map, is_in-append, map-map}
use Rattle.mx_state_res.proofs.TestLemmas.{one-answer}

listed : (o : Option ℕ) (p : ℕ) → In p (option_list o) → o ≡ Some p
listed None p h = absurd h
listed (Some q) p (inl e) = ap Some (sym e)
listed (Some q) p (inr h) = absurd h

in_list : (o : Option ℕ) (p : ℕ) → o ≡ Some p → In p (option_list o)
in_list None p e = absurd (cc e)
in_list (Some q) p e = inl (cc e)

-- the event of an entry of a state
own-member : (test : Key × ℕ → Bool) (t : State) (e : Key × ℕ) → In e t → test e ≡ true → is_in (events_of (filter test t)) e.1 ≡ true
own-member test t e m h = is_in-from e.1 (events_of (filter test t)) (in_map (λ (e : Key × ℕ). e.1) e (filter test t) (in_filter test e t m h))

-- what a state has at the keys is its own, or the first one has it there too
covered : (keys s t : State) (p : ℕ) → is_in (events_at keys t) p ≡ true → (is_in (events_at keys s) p ≡ true) ⊎ (is_in (own_events s t) p ≡ true)
covered keys s t p h =
    let r = in_flat_map-from (λ (e : Key × ℕ). option_list (entry t e.0)) p keys (is_in-to p (events_at keys t) h) in
    by r.0 r.1 (listed (entry t r.0.0) p r.2) (has_entry (r.0.0, p) s) refl
  where
    by : (f : Key × ℕ) → In f keys → entry t f.0 ≡ Some p → (b : Bool) → has_entry (f.0, p) s ≡ b → (is_in (events_at keys s) p ≡ true) ⊎ (is_in (own_events s t) p ≡ true)
    by f m e true d =
        inl (is_in-from p (events_at keys s) (in_flat_map (λ (e : Key × ℕ). option_list (entry s e.0)) f p keys m (in_list (entry s f.0) p (has-found (entry s f.0) p d))))
    by f m e false d = inr (own-member (lacks s) t (f.0, p) (find-in f.0 t p e) (ap not d))

-- what the first one lacks it lacks at other keys too
lacked : (keys s : State) (e : Key × ℕ) → lacks s e ≡ true → lacks (without keys s) e ≡ true
lacked keys s e h = ap (λ o. not (is_some_and (λ p. p == e.1) o)) (entry-without keys s e.0) ∙ by (is_none (entry keys e.0))
  where
    by : (b : Bool) → not (is_some_and (λ p. p == e.1) (cond b (entry s e.0) None)) ≡ true
    by true = h
    by false = refl

-- ---- of states and the keys at which they are not all alike

module _ (keys s : State) (ss : List State) (ordered : Sorted keys) (sorted : (t : State) → In t (s ∷ ss) → Sorted t) (differing : IsDiffering keys (s ∷ ss)) where
  own-part : (t : State) → In t (s ∷ ss) → IsPart (own_events s t) (events_at keys t)
  own-part t m p h =
      let r = in_map-from (λ (e : Key × ℕ). e.1) p (filter (lacks s) t) (is_in-to p (own_events s t) h) in
      let k = in_filter-parts (lacks s) r.0 t r.1 in
      lacks-at keys s ss ordered sorted differing t m p
      ∙ subst (λ z. is_in (events_of (filter (lacks (without keys s)) t)) z ≡ true) (sym r.2) (own-member (lacks (without keys s)) t r.0 k.0 (lacked keys s r.0 k.1))

  parts-of : (ts : List State) → ((t : State) → In t ts → In t (s ∷ ss)) → (qs : List (List ℕ))
      → HaveSameEvents qs (map (own_events s) ts) → AllZip IsPart qs (map (events_at keys) ts)
  parts-of [] within [] h = tt
  parts-of [] within (q ∷ qs) h = absurd h
  parts-of (t ∷ ts) within [] h = absurd h
  parts-of (t ∷ ts) within (q ∷ qs) h = (λ p e. own-part t (within t (inl refl)) p (sym (h.0 p) ∙ e), parts-of ts (λ u m. within u (inr m)) qs h.1)

  -- each is a part of what its state has at the keys
  pub are-parts : (qs : List (List ℕ)) → HaveSameEvents qs (event_parts keys s ss) → AllZip IsPart qs (map (events_at keys) (s ∷ ss))
  are-parts [] h = absurd h
  are-parts (q ∷ qs) h = (λ p e. sym (h.0 p) ∙ e, parts-of ss (λ u m. inr m) qs h.1)

  joined-to : (qs sets : List (List ℕ)) → AllZip IsPart qs sets → IsPart (flat_map (λ xs. xs) qs) (flat_map (λ xs. xs) sets)
  joined-to [] [] h p e = e
  joined-to [] (x ∷ xs) h p e = absurd h
  joined-to (q ∷ qs) [] h p e = absurd h
  joined-to (q ∷ qs) (x ∷ xs) h p e = is_in-append x (flat_map (λ xs. xs) xs) p
      ∙ by (joined-to qs xs h.1 p) (or_cases (is_in q p) _ (sym (is_in-append q (flat_map (λ xs. xs) qs) p) ∙ e))
    where
      by : (is_in (flat_map (λ xs. xs) qs) p ≡ true → is_in (flat_map (λ xs. xs) xs) p ≡ true) → (is_in q p ≡ true)
          ⊎ (is_in (flat_map (λ xs. xs) qs) p ≡ true) → (is_in x p || is_in (flat_map (λ xs. xs) xs) p) ≡ true
      by rest (inl k) = or_left (is_in x p) _ (h.0 p k)
      by rest (inr k) = or_right (is_in x p) _ (rest k)

  joined-from : (ts : List State) (qs : List (List ℕ)) → HaveSameEvents qs (map (own_events s) ts) → (p : ℕ) → is_in (flat_map (λ xs. xs) (map (events_at keys) ts)) p ≡ true
      → (is_in (events_at keys s) p ≡ true) ⊎ (is_in (flat_map (λ xs. xs) qs) p ≡ true)
  joined-from [] [] h p e = absurd (cc e)
  joined-from [] (q ∷ qs) h p e = absurd h
  joined-from (t ∷ ts) [] h p e = absurd h
  joined-from (t ∷ ts) (q ∷ qs) h p e = by (joined-from ts qs h.1 p)
      (or_cases (is_in (events_at keys t) p) _
      (sym (is_in-append (events_at keys t) (flat_map (λ xs. xs) (map (events_at keys) ts)) p) ∙ e))
    where
      own : (is_in (events_at keys s) p ≡ true) ⊎ (is_in (own_events s t) p ≡ true) → (is_in (events_at keys s) p ≡ true) ⊎ (is_in (flat_map (λ xs. xs) (q ∷ qs)) p ≡ true)
      own (inl k) = inl k
      own (inr k) = inr (is_in-append q (flat_map (λ xs. xs) qs) p ∙ or_left (is_in q p) _ (h.0 p ∙ k))

      later : (is_in (events_at keys s) p ≡ true) ⊎ (is_in (flat_map (λ xs. xs) qs) p ≡ true)
          → (is_in (events_at keys s) p ≡ true) ⊎ (is_in (flat_map (λ xs. xs) (q ∷ qs)) p ≡ true)
      later (inl k) = inl k
      later (inr k) = inr (is_in-append q (flat_map (λ xs. xs) qs) p ∙ or_right (is_in q p) _ k)

      by : (is_in (flat_map (λ xs. xs) (map (events_at keys) ts)) p ≡ true → (is_in (events_at keys s) p ≡ true) ⊎ (is_in (flat_map (λ xs. xs) qs) p ≡ true))
          → (is_in (events_at keys t) p ≡ true) ⊎ (is_in (flat_map (λ xs. xs) (map (events_at keys) ts)) p ≡ true)
          → (is_in (events_at keys s) p ≡ true) ⊎ (is_in (flat_map (λ xs. xs) (q ∷ qs)) p ≡ true)
      by rest (inl k) = own (covered keys s t p k)
      by rest (inr k) = later (rest k)

  -- together they have what all states have at the keys
  pub joined-same : (qs : List (List ℕ)) → HaveSameEvents qs (event_parts keys s ss) → (p : ℕ)
      → is_in (flat_map (λ xs. xs) qs) p ≡ is_in (flat_map (λ xs. xs) (map (events_at keys) (s ∷ ss))) p
  joined-same [] h p = absurd h
  joined-same (q ∷ qs) h p =
      one-answer (is_in (flat_map (λ xs. xs) (q ∷ qs)) p) (is_in (flat_map (λ xs. xs) (map (events_at keys) (s ∷ ss))) p)
      (joined-to (q ∷ qs) (map (events_at keys) (s ∷ ss)) (are-parts (q ∷ qs) h) p)
      (λ e. is_in-append q (flat_map (λ xs. xs) qs) p
      ∙ by (or_cases (is_in (events_at keys s) p) _
      (sym (is_in-append (events_at keys s) (flat_map (λ xs. xs) (map (events_at keys) ss)) p) ∙ e)))
    where
      first : (is_in (events_at keys s) p ≡ true) ⊎ (is_in (flat_map (λ xs. xs) qs) p ≡ true) → (is_in q p || is_in (flat_map (λ xs. xs) qs) p) ≡ true
      first (inl k) = or_left (is_in q p) _ (h.0 p ∙ k)
      first (inr k) = or_right (is_in q p) _ k

      by : (is_in (events_at keys s) p ≡ true) ⊎ (is_in (flat_map (λ xs. xs) (map (events_at keys) ss)) p ≡ true) → (is_in q p || is_in (flat_map (λ xs. xs) qs) p) ≡ true
      by (inl k) = first (inl k)
      by (inr k) = first (joined-from ss qs h.1 p k)

-- the parts of one state more
pub parts-more : (keys s : State) (ts : List State) (t : State) (qs : List (List ℕ)) (part : List ℕ)
    → HaveSameEvents qs (event_parts keys s ts) → ((p : ℕ) → is_in part p ≡ is_in (own_events s t) p)
    → HaveSameEvents (qs ++ part ∷ []) (event_parts keys s (ts ++ t ∷ []))
parts-more keys s ts t qs part h e =
    subst (λ ys. HaveSameEvents (qs ++ part ∷ []) (events_at keys s ∷ ys)) (sym (map-append (own_events s) ts (t ∷ [])))
    (AllZip-push (λ xs ys. (p : ℕ) → is_in xs p ≡ is_in ys p) qs (event_parts keys s ts) part (own_events s t) h e)

-- where two states differ, one has its own events
pub own-at : (keys s t : State) → Sorted keys → Sorted s → Sorted t → IsDiffering keys (s ∷ t ∷ []) → (p : ℕ) → is_in (events_at keys t) p ≡ is_in (own_events s t) p
own-at keys s t ordered ss ts differing p =
    one-answer (is_in (events_at keys t) p) (is_in (own_events s t) p)
    (λ h. let r = in_flat_map-from (λ (e : Key × ℕ). option_list (entry t e.0)) p keys
    (is_in-to p (events_at keys t) h) in by r.0 r.1 (listed (entry t r.0.0) p r.2) (has_entry (r.0.0, p) s) refl)
    (own-part keys s (t ∷ []) ordered both differing t (inr (inl refl)) p)
  where
    both : (u : State) → In u (s ∷ t ∷ []) → Sorted u
    both u (inl e) = subst Sorted (sym e) ss
    both u (inr (inl e)) = subst Sorted (sym e) ts
    both u (inr (inr m)) = absurd m

    by : (f : Key × ℕ) → In f keys → entry t f.0 ≡ Some p → (b : Bool) → has_entry (f.0, p) s ≡ b → is_in (own_events s t) p ≡ true
    by f m e true d =
        let alike : entry t f.0 ≡ entry s f.0 = e ∙ sym (has-found (entry s f.0) p d) in
        absurd (cc (sym (find-own keys ordered f m) ∙ (differing f.0).1 (all-of (λ u. entry u f.0 ≡ entry s f.0) (t ∷ []) (λ u k. one u k alike))))
      where
        one : (u : State) → In u (t ∷ []) → entry t f.0 ≡ entry s f.0 → entry u f.0 ≡ entry s f.0
        one u (inl k) a = ap (λ v. entry v f.0) k ∙ a
        one u (inr k) a = absurd k
    by f m e false d = own-member (lacks s) t (f.0, p) (find-in f.0 t p e) (ap not d)

-- ---- by numbers

-- all numbers but the first
pub others-are : (base : ℕ) (others numbers : List ℕ) → numbers ≡ base ∷ others → take (length numbers - 1) (drop 1 numbers) ≡ others
others-are base others numbers q = ap (λ ns. take (length ns - 1) (drop 1 ns)) q ∙ take_all (length (base ∷ others) - 1) others (omega arith)

-- the events of all parts, one part after another
pub parts-joined : (vs ws : List (Vec ℕ Global)) (found : List ℕ)
    → found ≡ flat_map (λ (v : Vec ℕ Global). v.items) ws → ws ≡ vs
    → found ≡ flat_map (λ xs. xs) (map (λ (v : Vec ℕ Global). v.items) vs)
parts-joined vs ws found e q = e ∙ ap (flat_map (λ (v : Vec ℕ Global). v.items)) q ∙ flat_map-map (λ (v : Vec ℕ Global). v.items) (λ xs. xs) vs

-- all events of each state at the keys
pub whole-own : (keys : State) (at : ℕ → State) (numbers : List ℕ) (qs : List (List ℕ))
    → qs ≡ map (λ n. events_at keys (at n)) numbers → AllZip IsPart qs (map (events_at keys) (map at numbers))
whole-own keys at numbers qs e =
    subst (λ xs. AllZip IsPart xs (map (events_at keys) (map at numbers))) (sym (e ∙ map-map at (events_at keys) numbers)) (itself (map (events_at keys) (map at numbers)))
  where
    itself : (xs : List (List ℕ)) → AllZip IsPart xs xs
    itself [] = tt
    itself (x ∷ xs) = (λ p k. k, itself xs)

pub whole-all : (keys : State) (at : ℕ → State) (numbers : List ℕ) (qs : List (List ℕ))
    → qs ≡ map (λ n. events_at keys (at n)) numbers → (p : ℕ)
    → is_in (flat_map (λ xs. xs) qs) p ≡ is_in (flat_map (λ xs. xs) (map (events_at keys) (map at numbers))) p
whole-all keys at numbers qs e p = ap (λ xs. is_in (flat_map (λ ys. ys) xs) p) (e ∙ map-map at (events_at keys) numbers)

-- of each state but the first those that the first hasn't
module _ (at : ℕ → State) (keys : State) (ordered : Sorted keys) (base : ℕ) (others numbers : List ℕ) (q : numbers ≡ base ∷ others)
    (sorted : All (λ n. Sorted (at n)) numbers) (differing : IsDiffering keys (map at numbers)) (qs : List (List ℕ))
    (parts : HaveSameEvents qs (event_parts keys (at base) (map at others))) where
  each-sorted : (t : State) → In t (map at (base ∷ others)) → Sorted t
  each-sorted = at-sorted at (base ∷ others) (subst (All (λ n. Sorted (at n))) q sorted)

  each-differ : IsDiffering keys (map at (base ∷ others))
  each-differ = subst (λ ns. IsDiffering keys (map at ns)) q differing

  pub numbered-own : AllZip IsPart qs (map (events_at keys) (map at numbers))
  numbered-own = subst (λ ns. AllZip IsPart qs (map (events_at keys) (map at ns))) (sym q) (are-parts keys (at base) (map at others) ordered each-sorted each-differ qs parts)

  pub numbered-all : (p : ℕ) → is_in (flat_map (λ xs. xs) qs) p ≡ is_in (flat_map (λ xs. xs) (map (events_at keys) (map at numbers))) p
  numbered-all p =
      joined-same keys (at base) (map at others) ordered each-sorted each-differ qs parts p
      ∙ ap (λ ns. is_in (flat_map (λ xs. xs) (map (events_at keys) (map at ns))) p) (sym q)

module _ (rows : List Row) (sound : IsSound rows) (at : ℕ → State) (keys : State) (ordered : Sorted keys) (base : ℕ) (others numbers : List ℕ) (q : numbers ≡ base ∷ others)
    (sorted : All (λ n. Sorted (at n)) numbers) (differing : IsDiffering keys (map at numbers)) (known : AreKnown rows (map at numbers)) where
  states-sorted : (t : State) → In t (map at (base ∷ others)) → Sorted t
  states-sorted = at-sorted at (base ∷ others) (subst (All (λ n. Sorted (at n))) q sorted)

  states-differ : IsDiffering keys (map at (base ∷ others))
  states-differ = subst (λ ns. IsDiffering keys (map at ns)) q differing

  states-known : AreKnown rows (map at (base ∷ others))
  states-known = subst (λ ns. AreKnown rows (map at ns)) q known

  abbrev sets : List (List ℕ)
  sets = map (events_at keys) (map at (base ∷ others))

  abbrev shared : List ℕ
  shared = events_of (without keys (at base))

  from-members : (events : List ℕ) → Rises events
      → ((p : ℕ) → is_in events p ≡ (is_in (flat_map (λ xs. xs) sets) p
      || is_in (chain_difference rows shared sets) p)) → events ≡ full_conflicted rows (map at numbers)
  from-members events rises same =
      full-from keys (at base) (map at others) ordered states-sorted states-differ rows sound states-known events rises
      (λ p. same p ∙ ap (λ xs. is_in xs p || is_in (chain_difference rows shared sets) p) (sym (flat_map-map (events_at keys) (λ xs. xs) (map at (base ∷ others)))))
      ∙ ap (λ ns. full_conflicted rows (map at ns)) (sym q)

  module _ (qs : List (List ℕ)) (own : AllZip IsPart qs (map (events_at keys) (map at numbers)))
      (all : (p : ℕ) → is_in (flat_map (λ xs. xs) qs) p ≡ is_in
      (flat_map (λ xs. xs) (map (events_at keys) (map at numbers))) p) (found : List ℕ)
      (joined : found ≡ flat_map (λ xs. xs) qs) where
    found-same : (p : ℕ) → is_in found p ≡ is_in (flat_map (λ xs. xs) sets) p
    found-same p = ap (λ xs. is_in xs p) joined ∙ all p ∙ ap (λ ns. is_in (flat_map (λ xs. xs) (map (events_at keys) (map at ns))) p) q

    pub found-known : All (λ p. p < length rows) found
    found-known =
        all-of (λ p. p < length rows) found
        (λ p m.
        let r = in_flat_map-from (λ (xs : List ℕ). xs) p sets (is_in-to p (flat_map (λ xs. xs) sets) (sym (found-same p) ∙ is_in-from p found m)) in
        let k = in_map-from (events_at keys) r.0 (map at (base ∷ others)) r.1 in
        events_at-known (length rows) keys k.0 (all-at (λ t. All (λ e. e.1 < length rows) t) (map at (base ∷ others)) states-known k.0 k.1) p (subst (In p) k.2 r.2))

    -- where they cite none but themselves and what is in all chains, they are the set
    pub full-told : (events : List ℕ) → Rises events → ((p : ℕ) → is_in events p ≡ is_in found p) → CiteWithin rows qs events → events ≡ full_conflicted rows (map at numbers)
    full-told events rises same cite =
        from-members events rises
        (difference-adds-none rows sound shared sets events (λ p. same p ∙ found-same p)
        (within-more rows sound qs sets events (subst (λ ns. AllZip IsPart qs (map (events_at keys) (map at ns))) q own) cite))

    -- else with the difference of the chains
    pub full-joined : (difference events : List ℕ)
        → difference ≡ chain_difference rows shared (map (λ n. events_at keys (at n)) numbers) → Rises events
        → ((p : ℕ) → is_in events p ≡ is_in (found ++ difference) p) → events ≡ full_conflicted rows (map at numbers)
    full-joined difference events is rises same =
        from-members events rises
        (λ p. same p ∙ is_in-append found difference p
        ∙ ap₂ (λ a b. a || b) (found-same p)
        (ap (λ xs. is_in xs p) (is ∙ ap
        (λ ns. chain_difference rows shared (map (λ n. events_at keys (at n)) ns)) q
        ∙ ap (chain_difference rows shared) (map-map at (events_at keys) (base ∷ others)))))
