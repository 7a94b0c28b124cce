-- The events of a state are those of the entries that all states share, and those of its others.
use Rattle.std.proofs.Common.{◌≡◌, ℕ, ◌==◌, ◌<◌, Bool, true, false, not, cond, ◌||◌, ◌⊎◌, inl, inr, List, [], ◌∷◌, filter, flat_map, map, Some, refl, sym, ap, subst, ◌∙◌, Bor, Vec}
use Rattle.std.specs.List.{All, AllZip}
use Rattle.std.specs.Ordering.{is_eq}
use Rattle.std.specs.FinMap.Entries.{find}
use Rattle.std.specs.declared.alloc.Global.{Global}
use Rattle.mx_redact.specs.Fields.{is_some_and}
use Rattle.mx_pdu.specs.StateKeys.{Key}
use Rattle.mx_graph.specs.Graph.{IsSound}
use Rattle.mx_graph.specs.Record.{Row, is_in}
use Rattle.mx_graph.proofs.Members.{In, in_filter, in_filter-parts, in_flat_map}
use Rattle.mx_graph.proofs.Closure.{or_cases, or_left, or_right, is_in-from, is_in-to}
use Rattle.mx_graph.specs.StateMap.{State, events_of, key_cmp}
use Rattle.mx_orders.proofs.Members.{in_map, in_map-from}
use Rattle.mx_state_res.specs.ChainDifference.{chain_difference}
use Rattle.mx_states.specs.Entries.{has_entry}
use Rattle.mx_state_res.specs.Resolution.{in_every, unconflicted, auth_difference}
use Rattle.mx_state_res.proofs.TestLemmas.{and-first, and-second, one-answer}
use Rattle.mx_state_res.proofs.SetLemmas.{shown, all-of, flat_map-map}
use Rattle.mx_state_res.proofs.AgreedLemmas.{agreed-known}
use Rattle.mx_state_res.proofs.ConflictLemmas.{lacks, gathered, gathered-known}
use Rattle.mx_state_res.proofs.ChainLemmas.{difference-of-others}

-- ---- what a state has

pub has-member : (e : Key × ℕ) (s : State) → has_entry e s ≡ true → is_in (events_of s) e.1 ≡ true
has-member e [] h = absurd (cc h)
has-member e (f ∷ s) h = by (is_eq (key_cmp e.0 f.0)) h (has-member e s)
  where
    by : (b : Bool) → is_some_and (λ p. p == e.1) (cond b (Some f.1) (find key_cmp e.0 s)) ≡ true → (has_entry e s ≡ true → is_in (events_of s) e.1 ≡ true) → is_in (events_of (f ∷ s)) e.1 ≡ true
    by true k later = or_left (f.1 == e.1) _ k
    by false k later = or_right (f.1 == e.1) _ (later k)

pub every-at : (states : List State) (e : Key × ℕ) → in_every states e ≡ true → (s : State) → In s states → has_entry e s ≡ true
every-at [] e h s m = absurd m
every-at (t ∷ ts) e h s (inl q) = subst (λ s. has_entry e s ≡ true) (sym q) (and-first (has_entry e t) _ h)
every-at (t ∷ ts) e h s (inr m) = every-at ts e (and-second (has_entry e t) _ h) s m

-- the event of an entry that all states share is in each of them
member-of : (states : List State) (e : Key × ℕ) → In e (unconflicted states) → (s : State) → In s states → is_in (events_of s) e.1 ≡ true
unfolding unconflicted
member-of [] e m s k = absurd k
member-of (t ∷ ts) e m s (inl q) =
    subst (λ s. is_in (events_of s) e.1 ≡ true) (sym q) (is_in-from e.1 (events_of t) (in_map (λ (e : Key × ℕ). e.1) e t (in_filter-parts (in_every ts) e t m).0))
member-of (t ∷ ts) e m s (inr k) = has-member e s (every-at ts e (in_filter-parts (in_every ts) e t m).1 s k)

pub made-of : (agreed : State) (states : List State) → agreed ≡ unconflicted states → (s : State) → In s states → (p : ℕ) → is_in (events_of s) p ≡ (is_in (events_of agreed) p || is_in (events_of (filter (lacks agreed) s)) p)
made-of agreed states is s m p =
    one-answer (is_in (events_of s) p) (is_in (events_of agreed) p || is_in (events_of (filter (lacks agreed) s)) p) to
    (λ h. from (or_cases (is_in (events_of agreed) p) (is_in (events_of (filter (lacks agreed) s)) p) h))
  where
    by : (e : Key × ℕ) → In e s → p ≡ e.1 → (b : Bool) → has_entry e agreed ≡ b → (is_in (events_of agreed) p || is_in (events_of (filter (lacks agreed) s)) p) ≡ true
    by e k q true f = or_left (is_in (events_of agreed) p) _ (subst (λ z. is_in (events_of agreed) z ≡ true) (sym q) (has-member e agreed f))
    by e k q false f =
        or_right (is_in (events_of agreed) p) _
        (subst (λ z. is_in (events_of (filter (lacks agreed) s)) z ≡ true) (sym q)
        (is_in-from e.1 (events_of (filter (lacks agreed) s)) (in_map (λ (e : Key × ℕ). e.1) e (filter (lacks agreed) s) (in_filter (lacks agreed) e s k (ap not f)))))

    to : is_in (events_of s) p ≡ true → (is_in (events_of agreed) p || is_in (events_of (filter (lacks agreed) s)) p) ≡ true
    to h = let r = in_map-from (λ (e : Key × ℕ). e.1) p s (is_in-to p (events_of s) h) in by r.0 r.1 r.2 (has_entry r.0 agreed) refl

    from : (is_in (events_of agreed) p ≡ true) ⊎ (is_in (events_of (filter (lacks agreed) s)) p ≡ true) → is_in (events_of s) p ≡ true
    from (inl h) =
        let r = in_map-from (λ (e : Key × ℕ). e.1) p agreed (is_in-to p (events_of agreed) h) in
        subst (λ z. is_in (events_of s) z ≡ true) (sym r.2) (member-of states r.0 (subst (In r.0) is r.1) s m)
    from (inr h) =
        let r = in_map-from (λ (e : Key × ℕ). e.1) p (filter (lacks agreed) s) (is_in-to p (events_of (filter (lacks agreed) s)) h) in
        subst (λ z. is_in (events_of s) z ≡ true) (sym r.2) (is_in-from r.0.1 (events_of s) (in_map (λ (e : Key × ℕ). e.1) r.0 s (in_filter-parts (lacks agreed) r.0 s r.1).0))

zipped : (agreed : State) (states : List State) → agreed ≡ unconflicted states → (bs : List (Bor State)) → ((s : State) → In s (shown bs) → In s states)
    → AllZip (λ others events. (p : ℕ) → is_in events p ≡ (is_in (events_of agreed) p || is_in others p)) (map (λ s. events_of (filter (lacks agreed) s.now)) bs) (map events_of (shown bs))
zipped agreed states is [] within = tt
zipped agreed states is (b ∷ bs) within = (made-of agreed states is b.now (within b.now (inl refl)), zipped agreed states is bs (λ s m. within s (inr m)))

-- ---- where the chains differ

-- from what states share, and from the others of each, their auth difference is found
pub difference-agreed : (rows : List Row) → IsSound rows → (agreed : State) (bs : List (Bor State)) → agreed ≡ unconflicted (shown bs) → chain_difference rows (events_of agreed) (map (λ s. events_of (filter (lacks agreed) s.now)) bs) ≡ auth_difference rows (shown bs)
difference-agreed rows sound agreed bs is =
    sym (difference-of-others rows (events_of agreed) (map (λ (s : Bor State). events_of (filter (lacks agreed) s.now)) bs) (shown bs) sound (zipped agreed (shown bs) is bs (λ s m. m)))

-- the others of all states, one state after another
pub gathered-joined : (agreed : State) (bs : List (Bor State)) (vs : List (Vec ℕ Global)) → map (λ (v : Vec ℕ Global). v.items) vs ≡ map (λ s. events_of (filter (lacks agreed) s.now)) bs → flat_map (λ (v : Vec ℕ Global). v.items) vs ≡ gathered agreed bs
gathered-joined agreed bs vs e =
    flat_map-map (λ (v : Vec ℕ Global). v.items) (λ xs. xs) vs ∙ ap (flat_map (λ xs. xs)) e ∙ sym (flat_map-map (λ (s : Bor State). events_of (filter (lacks agreed) s.now)) (λ xs. xs) bs)

-- ---- events of the record

pub apart-events-known : (n : ℕ) (agreed : State) (bs : List (Bor State)) → All (λ (s : Bor State). All (λ e. e.1 < n) s.now) bs → (vs : List (Vec ℕ Global)) → map (λ (v : Vec ℕ Global). v.items) vs ≡ map (λ s. events_of (filter (lacks agreed) s.now)) bs
    → All (λ (v : Vec ℕ Global). All (λ s. s < n) v.items) vs
apart-events-known n agreed bs known vs e =
    all-of (λ (v : Vec ℕ Global). All (λ s. s < n) v.items) vs
    (λ v m. all-of (λ s. s < n) v.items
    (λ s k. gathered-known n agreed bs known s (ap (λ xs. is_in xs s) (sym (gathered-joined agreed bs vs e)) ∙ is_in-from s (flat_map (λ (v : Vec ℕ Global). v.items) vs) (in_flat_map (λ (v : Vec ℕ Global). v.items) v s vs m k))))

pub shared-events-known : (n : ℕ) (agreed : State) (bs : List (Bor State)) → agreed ≡ unconflicted (shown bs) → All (λ (s : Bor State). All (λ e. e.1 < n) s.now) bs → All (λ p. p < n) (events_of agreed)
shared-events-known n agreed bs is known =
    all-of (λ p. p < n) (events_of agreed)
    (λ p m. let r = in_map-from (λ (e : Key × ℕ). e.1) p agreed m in subst (λ z. z < n) (sym r.2) (agreed-known n bs known r.0 (subst (In r.0) is r.1)))
