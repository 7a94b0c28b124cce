-- Where states are in conflict, as lists that a program gathers.
use Rattle.std.proofs.Common.{◌≡◌, ℕ, ◌<◌, Bool, true, false, not, ◌&&◌, ◌||◌, ◌⊎◌, inl, inr, List, [], ◌∷◌, ◌++◌, length, filter, flat_map, map, refl, sym, ap, ap₂, subst, ◌∙◌, Bor, Vec}
use Rattle.std.proofs.lemmas.List.{map-append}
use Rattle.std.specs.List.{All, list_any, list_all}
use Rattle.std.specs.declared.alloc.Global.{Global}
use Rattle.mx_pdu.specs.StateKeys.{Key}
use Rattle.mx_graph.specs.Record.{Row, is_in, event, auth_events}
use Rattle.mx_graph.specs.Graph.{auth_chain}
use Rattle.mx_graph.specs.Edges.{Rises}
use Rattle.mx_graph.proofs.Members.{in_filter-parts, in_flat_map-from}
use Rattle.mx_graph.proofs.Closure.{or_cases, is_in-from, is_in-to, reached-below}
use Rattle.mx_graph.specs.StateMap.{State, events_of}
use Rattle.mx_orders.proofs.Members.{in_map-from}
use Rattle.mx_state_res.specs.Agreed.{IsAgreed}
use Rattle.mx_states.specs.Entries.{has_entry}
use Rattle.mx_state_res.specs.Resolution.{in_every, conflicted, auth_difference, full_conflicted}
use Rattle.mx_state_res.proofs.SetLemmas.{shown, is_in-append, is_in-filter, all-at, all-of, list_any-map, list_all-map, flat_map-map, map-map, rises-filter, rising-is, where-known, where-is}

-- ---- conflicted events

-- an entry that is not agreed on
abbrev pub lacks : State → Key × ℕ → Bool
lacks agreed e = not (has_entry e agreed)

-- their events
abbrev pub gathered : State → List (Bor State) → List ℕ
gathered agreed bs = flat_map (λ s. events_of (filter (lacks agreed) s.now)) bs

events-flat : (test : Key × ℕ → Bool) (ss : List State) → flat_map (λ s. events_of (filter test s)) ss ≡ events_of (flat_map (filter test) ss)
events-flat test [] = refl
events-flat test (s ∷ ss) = ap (λ ys. events_of (filter test s) ++ ys) (events-flat test ss) ∙ sym (map-append (λ (e : Key × ℕ). e.1) (filter test s) (flat_map (filter test) ss))

gathered-is : (agreed : State) (bs : List (Bor State)) → IsAgreed agreed (shown bs) → gathered agreed bs ≡ events_of (flat_map (filter (λ e. not (in_every (shown bs) e))) (shown bs))
gathered-is agreed [] h = refl
gathered-is agreed (b ∷ bs) h =
    flat_map-map (λ (s : Bor State). s.now) (λ s. events_of (filter (lacks agreed) s)) (b ∷ bs) ∙ events-flat (lacks agreed) (shown (b ∷ bs))
    ∙ (λ i. events_of (flat_map (filter (λ e. not (h e i))) (shown (b ∷ bs))))

pub gathered-known : (n : ℕ) (agreed : State) (bs : List (Bor State)) → All (λ (s : Bor State). All (λ e. e.1 < n) s.now) bs → (p : ℕ) → is_in (gathered agreed bs) p ≡ true → p < n
gathered-known n agreed bs h p e =
    let a = in_flat_map-from (λ (s : Bor State). events_of (filter (lacks agreed) s.now)) p bs (is_in-to p (gathered agreed bs) e) in
    let b = in_map-from (λ (e : Key × ℕ). e.1) p (filter (lacks agreed) a.0.now) a.2 in
    let k = in_filter-parts (lacks agreed) b.0 a.0.now b.1 in
    let l : b.0.1 < n = all-at (λ (e : Key × ℕ). e.1 < n) a.0.now (all-at (λ (s : Bor State). All (λ e. e.1 < n) s.now) bs h a.0 a.1) b.0 k.0 in
    subst (λ z. z < n) (sym b.2) l

-- the same events as those of the conflicted state set
conflicted-is : (rows : List Row) (agreed : State) (bs : List (Bor State)) → All (λ (s : Bor State). All (λ e. e.1 < length rows) s.now) bs → IsAgreed agreed (shown bs) → (p : ℕ) → is_in (gathered agreed bs) p ≡ is_in (conflicted rows (shown bs)) p
unfolding conflicted
conflicted-is rows agreed bs known h p =
    ap (λ xs. is_in xs p) (gathered-is agreed bs h)
    ∙ sym (where-is rows (is_in (events_of (flat_map (filter (λ e. not (in_every (shown bs) e))) (shown bs)))) p
    (λ e. gathered-known (length rows) agreed bs known p (ap (λ xs. is_in xs p) (gathered-is agreed bs h) ∙ e)))

-- ---- the auth difference

chain-known : (rows : List Row) (starts : List ℕ) (p : ℕ) → is_in (auth_chain rows starts) p ≡ true → p < length rows
unfolding auth_chain
chain-known rows starts p e = all-at (λ p. p < length rows) (auth_chain rows starts) (reached-below rows (λ p. auth_events rows (event rows p)) starts) p (is_in-to p (auth_chain rows starts) e)

any-known : (rows : List Row) (ss : List State) (p : ℕ) → list_any (λ chain. is_in chain p) (map (λ s. auth_chain rows (events_of s)) ss) ≡ true → p < length rows
any-known rows [] p e = absurd (cc e)
any-known rows (s ∷ ss) p e = by (any-known rows ss p) (or_cases (is_in (auth_chain rows (events_of s)) p) _ e)
  where
    by : (list_any (λ chain. is_in chain p) (map (λ s. auth_chain rows (events_of s)) ss) ≡ true → p < length rows) → (is_in (auth_chain rows (events_of s)) p ≡ true) ⊎ (list_any (λ chain. is_in chain p) (map (λ s. auth_chain rows (events_of s)) ss) ≡ true) → p < length rows
    by later (inl k) = chain-known rows (events_of s) p k
    by later (inr k) = later k

first : (a b : Bool) → (a && b) ≡ true → a ≡ true
first true b e = refl
first false b e = absurd (cc e)

-- the members of the chains together
pub joined-is : (vs : List (Vec ℕ Global)) (p : ℕ) → is_in (flat_map (λ (c : Vec ℕ Global). c.items) vs) p ≡ list_any (λ (c : Vec ℕ Global). is_in c.items p) vs
joined-is [] p = refl
joined-is (v ∷ vs) p = is_in-append v.items (flat_map (λ (c : Vec ℕ Global). c.items) vs) p ∙ ap (λ b. is_in v.items p || b) (joined-is vs p)

module _ (vs : List (Vec ℕ Global)) where
  -- an event that some chain lacks
  abbrev pub misses : ℕ → Bool
  misses p = not (list_all (λ c. is_in c.items p) vs)

  pub difference-is : (rows : List Row) (bs : List (Bor State)) (all found : List ℕ) → map (λ (c : Vec ℕ Global). c.items) vs ≡ map (λ (s : Bor State). auth_chain rows (events_of s.now)) bs → Rises all → ((p : ℕ) → is_in all p ≡ list_any (λ (c : Vec ℕ Global). is_in c.items p) vs) → found ≡ filter misses all → found ≡ auth_difference rows (shown bs)
  unfolding auth_difference
  difference-is rows bs all found each rises same e =
      rising-is rows found test (subst Rises (sym e) (rises-filter misses all rises)) (λ p k. any-known rows (shown bs) p (first _ _ (sym (is p) ∙ k))) is
    where
      chains : List (List ℕ)
      chains = map (λ c. c.items) vs

      test : ℕ → Bool
      test p = list_any (λ chain. is_in chain p) (map (λ s. auth_chain rows (events_of s)) (shown bs)) && not (list_all (λ chain. is_in chain p) (map (λ s. auth_chain rows (events_of s)) (shown bs)))

      chains-are : map (λ (c : Vec ℕ Global). c.items) vs ≡ map (λ s. auth_chain rows (events_of s)) (shown bs)
      chains-are = each ∙ map-map (λ (s : Bor State). s.now) (λ s. auth_chain rows (events_of s)) bs

      is : (p : ℕ) → is_in found p ≡ test p
      is p =
          ap (λ xs. is_in xs p) e ∙ is_in-filter misses all p
          ∙ ap₂ (λ a b. a && not b) (same p ∙ list_any-map (λ (c : Vec ℕ Global). c.items) (λ chain. is_in chain p) vs) (list_all-map (λ (c : Vec ℕ Global). c.items) (λ chain. is_in chain p) vs)
          ∙ ap (λ cs. list_any (λ chain. is_in chain p) cs && not (list_all (λ chain. is_in chain p) cs)) chains-are

-- the same, where the chains and the events are read anew at each use
pub difference-found : (rows : List Row) (bs : List (Bor State)) (vs us ws : List (Vec ℕ Global)) (all every found : List ℕ) → map (λ (c : Vec ℕ Global). c.items) vs ≡ map (λ (s : Bor State). auth_chain rows (events_of s.now)) bs → us ≡ vs → ws ≡ vs → Rises all → ((p : ℕ) → is_in all p ≡ list_any (λ (c : Vec ℕ Global). is_in c.items p) us) → every ≡ all → found ≡ filter (misses ws) every → found ≡ auth_difference rows (shown bs)
difference-found rows bs vs us ws all every found each u w rises same v e =
    difference-is vs rows bs all found each rises (λ p. same p ∙ ap (list_any (λ (c : Vec ℕ Global). is_in c.items p)) u) (e ∙ ap₂ (λ xs ys. filter (misses xs) ys) w v)

-- ---- the full conflicted set

set-known : (rows : List Row) (states : List State) (p : ℕ) → (is_in (conflicted rows states) p ≡ true) ⊎ (is_in (auth_difference rows states) p ≡ true) → p < length rows
unfolding conflicted auth_difference
set-known rows states p (inl e) = where-known rows _ p e
set-known rows states p (inr e) = where-known rows _ p e

pub full-is : (rows : List Row) (agreed : State) (bs : List (Bor State)) (found events : List ℕ) → All (λ (s : Bor State). All (λ e. e.1 < length rows) s.now) bs → IsAgreed agreed (shown bs) → found ≡ gathered agreed bs ++ auth_difference rows (shown bs) → Rises events → ((p : ℕ) → is_in events p ≡ is_in found p) → events ≡ full_conflicted rows (shown bs)
unfolding full_conflicted
full-is rows agreed bs found events known h e rises same =
    rising-is rows events (λ p. is_in (conflicted rows (shown bs)) p || is_in (auth_difference rows (shown bs)) p) rises
    (λ p k. set-known rows (shown bs) p (or_cases (is_in (conflicted rows (shown bs)) p) _ (sym (is p) ∙ k))) is
  where
    is : (p : ℕ) → is_in events p ≡ (is_in (conflicted rows (shown bs)) p || is_in (auth_difference rows (shown bs)) p)
    is p =
        same p ∙ ap (λ xs. is_in xs p) e ∙ is_in-append (gathered agreed bs) (auth_difference rows (shown bs)) p
        ∙ ap (λ b. b || is_in (auth_difference rows (shown bs)) p) (conflicted-is rows agreed bs known h p)

pub full-known : (rows : List Row) (states : List State) → All (λ p. p < length rows) (full_conflicted rows states)
unfolding full_conflicted
full-known rows states = all-of (λ p. p < length rows) (full_conflicted rows states) (λ p m. where-known rows _ p (is_in-from p (full_conflicted rows states) m))
