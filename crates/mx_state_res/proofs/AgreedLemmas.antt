-- The entries on which states agree.
use Rattle.std.proofs.Common.{◌≡◌, ℕ, ◌==◌, ◌<◌, Bool, true, false, cond, ◌&&◌, T, List, [], ◌∷◌, filter, Some, refl, sym, ap, subst, ◌∙◌, Bor, inl, eqb-true}
use Rattle.std.specs.List.{All, list_all}
use Rattle.std.specs.declared.cmp.Ordering.{Ordering}
use Rattle.std.specs.declared.cmp.Ordering.TheVariants.{Less, Equal, Greater}
use Rattle.std.specs.Ordering.{is_eq}
use Rattle.std.specs.FinMap.Entries.{find, put, below_all}
use Rattle.mx_redact.specs.Fields.{is_some_and}
use Rattle.mx_pdu.specs.StateKeys.{Key}
use Rattle.mx_graph.proofs.Members.{In, in_filter-parts}
use Rattle.mx_graph.specs.StateMap.{State, key_cmp}
use Rattle.mx_state_res.specs.Agreed.{IsAgreed}
use Rattle.mx_states.specs.Entries.{has_entry, overwritten}
use Rattle.mx_state_res.specs.Resolution.{in_every, unconflicted}
use Rattle.mx_states.proofs.KeyLemmas.{Sorted, first, second, key_cmp-same}
use Rattle.mx_states.proofs.OverwrittenLemmas.{found-below}
use Rattle.mx_state_res.proofs.SetLemmas.{list_all-map, all-at, shown}

-- ---- the entries that pass a test

pub put-kept : (test : Key × ℕ → Bool) (s items rest : State) (e : Key × ℕ) → items ≡ e ∷ rest → test e ≡ true → overwritten (put key_cmp e.0 e.1 s) (filter test rest) ≡ overwritten s (filter test items)
put-kept test s items rest e d t = sym (ap (λ xs. overwritten s (filter test xs)) d ∙ ap (λ b. overwritten s (cond b (e ∷ filter test rest) (filter test rest))) t)

pub put-other : (test : Key × ℕ → Bool) (s items rest : State) (e : Key × ℕ) → items ≡ e ∷ rest → test e ≡ false → overwritten s (filter test rest) ≡ overwritten s (filter test items)
put-other test s items rest e d t = sym (ap (λ xs. overwritten s (filter test xs)) d ∙ ap (λ b. overwritten s (cond b (e ∷ filter test rest) (filter test rest))) t)

-- ---- what such a state has

kept : (a t : Bool) → (a ≡ true → t ≡ true) → a ≡ (a && t)
kept true t h = sym (h refl)
kept false t h = refl

dropped : (a t : Bool) → (a ≡ true → t ≡ false) → false ≡ (a && t)
dropped true t h = sym (h refl)
dropped false t h = refl

same : (e f : Key × ℕ) → e.0 ≡ f.0 → (f.1 == e.1) ≡ true → f ≡ e
same e f k n = let m : f.1 ≡ e.1 = eqb-true f.1 e.1 n in λ i. (sym k i, m i)

pub has_entry-filter : (test : Key × ℕ → Bool) (s : State) → Sorted s → (e : Key × ℕ) → has_entry e (filter test s) ≡ (has_entry e s && test e)
has_entry-filter test [] h e = refl
has_entry-filter test (f ∷ s) h e = by (key_cmp e.0 f.0) refl (test f) refl (has_entry-filter test s (second _ _ h) e)
  where
    -- the entry at the front, or the later ones, by the order of the keys
    at : (r : Ordering) → key_cmp e.0 f.0 ≡ r → (rest : State) → has_entry e (f ∷ rest) ≡ is_some_and (λ p. p == e.1) (cond (is_eq r) (Some f.1) (find key_cmp e.0 rest))
    at r q rest = ap (λ r. is_some_and (λ p. p == e.1) (cond (is_eq r) (Some f.1) (find key_cmp e.0 rest))) q

    by : (r : Ordering) → key_cmp e.0 f.0 ≡ r → (b : Bool) → test f ≡ b → has_entry e (filter test s) ≡ (has_entry e s && test e) → has_entry e (cond b (f ∷ filter test s) (filter test s)) ≡ (has_entry e (f ∷ s) && test e)
    by Equal q true t later =
        at Equal q (filter test s)
        ∙ kept (f.1 == e.1) (test e) (λ n. ap test (sym (same e f (key_cmp-same e.0 f.0 q) n)) ∙ t)
        ∙ ap (λ b. b && test e) (sym (at Equal q s))
    by Equal q false t later =
        ap (is_some_and (λ p. p == e.1)) (found-below test e.0 s (subst (λ k. T (below_all key_cmp k s)) (sym (key_cmp-same e.0 f.0 q)) (first _ _ h)))
        ∙ dropped (f.1 == e.1) (test e) (λ n. ap test (sym (same e f (key_cmp-same e.0 f.0 q) n)) ∙ t)
        ∙ ap (λ b. b && test e) (sym (at Equal q s))
    by Less q true t later = at Less q (filter test s) ∙ later ∙ ap (λ b. b && test e) (sym (at Less q s))
    by Less q false t later = later ∙ ap (λ b. b && test e) (sym (at Less q s))
    by Greater q true t later = at Greater q (filter test s) ∙ later ∙ ap (λ b. b && test e) (sym (at Greater q s))
    by Greater q false t later = later ∙ ap (λ b. b && test e) (sym (at Greater q s))

-- ---- the unconflicted state

pub agreed-is : (all : List (Bor State)) (b : Bor State) (bs : List (Bor State)) → all ≡ b ∷ bs → filter (λ e. list_all (λ s. has_entry e s.now) bs) b.now ≡ unconflicted (shown all)
unfolding unconflicted
agreed-is all b bs e =
    (λ i. filter (λ x. list_all-map (λ (s : Bor State). s.now) (has_entry x) bs i) b.now) ∙ ap (λ xs. unconflicted (shown xs)) (sym e)

pub agreed-none : (all : List (Bor State)) → all ≡ [] → [] ≡ unconflicted (shown all)
unfolding unconflicted
agreed-none all e = ap (λ xs. unconflicted (shown xs)) (sym e)

pub agreed-every : (all : List (Bor State)) (b : Bor State) (bs : List (Bor State)) → all ≡ b ∷ bs → Sorted b.now → (agreed : State) → agreed ≡ filter (λ e. list_all (λ s. has_entry e s.now) bs) b.now → IsAgreed agreed (shown all)
agreed-every all b bs d h agreed is = subst (λ xs. IsAgreed agreed (shown xs)) (sym d) here
  where
    here : IsAgreed agreed (shown (b ∷ bs))
    here e =
        ap (has_entry e) is ∙ has_entry-filter (λ x. list_all (λ s. has_entry x s.now) bs) b.now h e
        ∙ ap (λ t. has_entry e b.now && t) (list_all-map (λ (s : Bor State). s.now) (has_entry e) bs)

pub agreed-known : (n : ℕ) (bs : List (Bor State)) → All (λ (s : Bor State). All (λ e. e.1 < n) s.now) bs → (e : Key × ℕ) → In e (unconflicted (shown bs)) → e.1 < n
unfolding unconflicted
agreed-known n [] h e m = absurd m
agreed-known n (b ∷ bs) h e m = all-at (λ (e : Key × ℕ). e.1 < n) b.now (all-at (λ (s : Bor State). All (λ e. e.1 < n) s.now) (b ∷ bs) h b (inl refl)) e (in_filter-parts (in_every (shown bs)) e b.now m).0
