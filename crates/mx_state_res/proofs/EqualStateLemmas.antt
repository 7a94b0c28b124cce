-- States that are all the same resolve to it.
use Rattle.std.proofs.Common.{◌≡◌, ℕ, zero, suc, ◌==◌, Bool, true, false, cond, not, ◌&&◌, ◌||◌, T, inl, inr, List, [], ◌∷◌, ◌++◌, filter, flat_map, map, Some, refl, sym, ap, ap₂, subst, ◌∙◌, arith, eq-eqb}
use Rattle.std.specs.List.{All, list_any, list_all}
use Rattle.std.specs.declared.cmp.Ordering.TheVariants.{Greater}
use Rattle.std.specs.FinMap.Entries.{find, put, below_all}
use Rattle.mx_redact.specs.Fields.{is_some_and}
use Rattle.mx_pdu.specs.StateKeys.{Key}
use Rattle.mx_auth.specs.declared.versions.RoomVersion.{RoomVersion}
use Rattle.mx_graph.specs.Record.{Row, is_in, places, events_where}
use Rattle.mx_graph.specs.Graph.{auth_chain}
use Rattle.mx_graph.proofs.Members.{In}
use Rattle.mx_graph.specs.StateMap.{State, key_cmp, entry, events_of}
use Rattle.mx_orders.specs.PowerOrder.{power_order}
use Rattle.mx_orders.specs.Mainline.{power_key, mainline, mainline_order}
use Rattle.mx_states.specs.Entries.{has_entry, overwritten}
use Rattle.mx_state_res.specs.Resolution.{in_every, unconflicted, conflicted, auth_difference, full_conflicted, power_events, iterative_auth_checks, resolve}
use Rattle.mx_states.proofs.KeyLemmas.{Sorted, first, second, less, key_cmp-itself, key_cmp-greater}
use Rattle.mx_states.proofs.PlaceLemmas.{find-equal, find-greater, put-equal, put-greater}

-- ---- the entries of a state

below-in : (k : Key) (s : State) → T (below_all key_cmp k s) → (e : Key × ℕ) → In e s → key_cmp e.0 k ≡ Greater
below-in k [] h e m = absurd m
below-in k (f ∷ s) h e (inl d) = subst (λ (x : Key × ℕ). key_cmp x.0 k ≡ Greater) (sym d) (key_cmp-greater k f.0 (less _ (first _ _ h)))
below-in k (f ∷ s) h e (inr m) = below-in k s (second _ _ h) e m

pub find-own : (s : State) → Sorted s → (e : Key × ℕ) → In e s → find key_cmp e.0 s ≡ Some e.1
find-own [] h e m = absurd m
find-own (f ∷ s) h e (inl d) = subst (λ (x : Key × ℕ). find key_cmp x.0 (f ∷ s) ≡ Some x.1) (sym d) (find-equal f.0 f s (key_cmp-itself f.0))
find-own (f ∷ s) h e (inr m) = find-greater e.0 f s (below-in f.0 s (first _ _ h) e m) ∙ find-own s (second _ _ h) e m

-- an entry that the state has changes nothing
put-own : (s : State) → Sorted s → (e : Key × ℕ) → In e s → put key_cmp e.0 e.1 s ≡ s
put-own [] h e m = absurd m
put-own (f ∷ s) h e (inl d) = subst (λ (x : Key × ℕ). put key_cmp x.0 x.1 (f ∷ s) ≡ f ∷ s) (sym d) (put-equal f.0 f.1 f s (key_cmp-itself f.0))
put-own (f ∷ s) h e (inr m) = put-greater e.0 e.1 f s (below-in f.0 s (first _ _ h) e m) ∙ ap (λ t. f ∷ t) (put-own s (second _ _ h) e m)

overwritten-own : (u s : State) → Sorted s → ((e : Key × ℕ) → In e u → In e s) → overwritten s u ≡ s
overwritten-own [] s h own = refl
overwritten-own (e ∷ u) s h own = ap (λ t. overwritten t u) (put-own s h e (own e (inl refl))) ∙ overwritten-own u s h (λ f m. own f (inr m))

-- ---- lists

module _ {A : Type 0} (test : A → Bool) where
  filter-all : (xs : List A) → ((x : A) → In x xs → test x ≡ true) → filter test xs ≡ xs
  filter-all [] h = refl
  filter-all (x ∷ xs) h = ap (λ b. cond b (x ∷ filter test xs) (filter test xs)) (h x (inl refl)) ∙ ap (λ ys. x ∷ ys) (filter-all xs (λ y m. h y (inr m)))

  filter-none : (xs : List A) → ((x : A) → In x xs → test x ≡ false) → filter test xs ≡ []
  filter-none [] h = refl
  filter-none (x ∷ xs) h = ap (λ b. cond b (x ∷ filter test xs) (filter test xs)) (h x (inl refl)) ∙ filter-none xs (λ y m. h y (inr m))

module _ {A : Type 0} (s : A) where
  later-same : (t : A) (ts : List A) → All (λ x. x ≡ s) (t ∷ ts) → All (λ x. x ≡ s) ts
  later-same t ts h k d l = h (suc k) d (omega arith)

  first-same : (t : A) (ts : List A) → All (λ x. x ≡ s) (t ∷ ts) → t ≡ s
  first-same t ts h = h zero t (omega arith)

  -- a test that a value passes is passed by all that are the same
  all-same : (test : A → Bool) (ts : List A) → All (λ x. x ≡ s) ts → (test s && list_all test ts) ≡ test s
  all-same test [] h = by (test s)
    where
      by : (b : Bool) → (b && true) ≡ b
      by true = refl
      by false = refl
  all-same test (t ∷ ts) h = (λ i. test s && (test (first-same t ts h i) && list_all test ts)) ∙ by (test s) (all-same test ts (later-same t ts h))
    where
      by : (b : Bool) → (b && list_all test ts) ≡ b → (b && (b && list_all test ts)) ≡ b
      by true e = e
      by false e = refl

  any-same : (test : A → Bool) (ts : List A) → All (λ x. x ≡ s) ts → (test s || list_any test ts) ≡ test s
  any-same test [] h = by (test s)
    where
      by : (b : Bool) → (b || false) ≡ b
      by true = refl
      by false = refl
  any-same test (t ∷ ts) h = (λ i. test s || (test (first-same t ts h i) || list_any test ts)) ∙ by (test s) (any-same test ts (later-same t ts h))
    where
      by : (b : Bool) → (b || list_any test ts) ≡ b → (b || (b || list_any test ts)) ≡ b
      by true e = refl
      by false e = e

  flat_map-same : {B : Type 0} (f : A → List B) (ts : List A) → All (λ x. x ≡ s) ts → f s ≡ [] → flat_map f ts ≡ []
  flat_map-same f [] h e = refl
  flat_map-same f (t ∷ ts) h e = ap₂ (λ xs ys. xs ++ ys) (ap f (first-same t ts h) ∙ e) (flat_map-same f ts (later-same t ts h) e)

  map-same : {B : Type 0} (f : A → B) (ts : List A) → All (λ x. x ≡ s) ts → All (λ y. y ≡ f s) (map f ts)
  map-same f [] h k d l = absurd (omega arith)
  map-same f (t ∷ ts) h zero d l = ap f (first-same t ts h)
  map-same f (t ∷ ts) h (suc k) d l = map-same f ts (later-same t ts h) k d (omega arith)

-- ---- nothing is in conflict

pub no_events : (rows : List Row) (test : ℕ → Bool) → ((p : ℕ) → test p ≡ false) → events_where rows test ≡ []
no_events rows test h = filter-none test (places rows) (λ p m. h p)

module _ (v : RoomVersion) (rows : List Row) (s : State) (sorted : Sorted s) (others : List State) (same : All (λ t. t ≡ s) others) where
  has-own : (e : Key × ℕ) → In e s → has_entry e s ≡ true
  has-own e m = ap (is_some_and (λ p. p == e.1)) (find-own s sorted e m) ∙ eq-eqb e.1 e.1 refl

  own-in_every : (e : Key × ℕ) → In e s → in_every (s ∷ others) e ≡ true
  own-in_every e m = all-same s (has_entry e) others same ∙ has-own e m

  own-in_others : (e : Key × ℕ) → In e s → in_every others e ≡ true
  own-in_others e m = ap (λ b. b && in_every others e) (sym (has-own e m)) ∙ own-in_every e m

  unconflicted-same : unconflicted (s ∷ others) ≡ s
  unfolding unconflicted
  unconflicted-same = filter-all (in_every others) s own-in_others

  differing-same : flat_map (filter (λ e. not (in_every (s ∷ others) e))) (s ∷ others) ≡ []
  differing-same = ap₂ (λ xs ys. xs ++ ys) own (flat_map-same s (filter (λ e. not (in_every (s ∷ others) e))) others same own)
    where
      own : filter (λ e. not (in_every (s ∷ others) e)) s ≡ []
      own = filter-none (λ e. not (in_every (s ∷ others) e)) s (λ e m. ap not (own-in_every e m))

  conflicted-same : conflicted rows (s ∷ others) ≡ []
  unfolding conflicted
  conflicted-same = ap (λ es. events_where rows (is_in (events_of es))) differing-same ∙ no_events rows (is_in []) (λ p. refl)

  abbrev chain_of : State → List ℕ
  chain_of t = auth_chain rows (events_of t)

  auth_difference-same : auth_difference rows (s ∷ others) ≡ []
  unfolding auth_difference
  auth_difference-same =
      no_events rows (λ p. list_any (λ chain. is_in chain p) (map chain_of (s ∷ others)) && not (list_all (λ chain. is_in chain p) (map chain_of (s ∷ others))))
      (λ p. ap₂ (λ a b. a && not b) (any-same (chain_of s) (λ chain. is_in chain p) (map chain_of others) same_chains) (all-same (chain_of s) (λ chain. is_in chain p) (map chain_of others) same_chains) ∙ neither (is_in (chain_of s) p))
    where
      same_chains : All (λ chain. chain ≡ chain_of s) (map chain_of others)
      same_chains = map-same s chain_of others same

      neither : (b : Bool) → (b && not b) ≡ false
      neither true = refl
      neither false = refl

  full_conflicted-same : full_conflicted rows (s ∷ others) ≡ []
  unfolding full_conflicted
  full_conflicted-same =
      ap₂ (λ xs ys. events_where rows (λ p. is_in xs p || is_in ys p)) conflicted-same auth_difference-same ∙ no_events rows (λ p. is_in [] p || is_in [] p) (λ p. refl)

  -- from a full conflicted set and an unconflicted state
  abbrev resolved_from : List ℕ → State → State
  resolved_from full agreed =
      let power = power_events rows full in
      let partial = iterative_auth_checks v rows agreed (power_order rows power) in
      overwritten (iterative_auth_checks v rows partial (mainline_order rows (mainline rows (entry partial power_key)) (filter (λ p. not (is_in power p)) full))) agreed

  pub resolve-same : resolve v rows (s ∷ others) ≡ s
  unfolding resolve power_events power_order mainline_order
  resolve-same = ap₂ resolved_from full_conflicted-same unconflicted-same ∙ overwritten-own s s sorted (λ e m. m)
