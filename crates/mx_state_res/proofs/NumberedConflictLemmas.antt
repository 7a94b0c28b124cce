-- Where states are in conflict, from the keys at which they are not all alike.
use Rattle.std.proofs.Common.{◌≡◌, ℕ, zero, suc, ◌==◌, ◌<◌, Bool, true, false, cond, not, ◌&&◌, ◌||◌, inl, inr, List, [], ◌∷◌, ◌++◌, length, filter, flat_map, map, Option, Some, None, is_none, refl, sym, ap, ap₂, subst, ◌∙◌, eq-eqb, Bor, Vec, arith}
use Rattle.std.specs.List.{All, AllZip}
use Rattle.std.specs.Ordering.{is_eq}
use Rattle.std.specs.FinMap.Entries.{find}
use Rattle.std.specs.declared.alloc.Global.{Global}
use Rattle.mx_redact.specs.Fields.{is_some_and}
use Rattle.mx_pdu.specs.StateKeys.{Key}
use Rattle.mx_graph.specs.Graph.{IsSound}
use Rattle.mx_graph.specs.Record.{Row, is_in}
use Rattle.mx_graph.specs.Edges.{Rises}
use Rattle.mx_graph.proofs.Members.{In, in_filter, in_filter-parts, in_flat_map, in_flat_map-from}
use Rattle.mx_graph.proofs.Closure.{is_in-from, is_in-to}
use Rattle.mx_graph.specs.StateMap.{State, events_of, key_cmp, entry}
use Rattle.mx_orders.proofs.Members.{in_map, in_map-from}
use Rattle.mx_state_res.specs.Agreed.{IsAgreed}
use Rattle.mx_state_res.specs.ChainDifference.{chain_difference}
use Rattle.mx_state_res.specs.Numbered.{AreKnown}
use Rattle.mx_states.specs.Numbered.{IsDiffering, events_at, option_list, state_at, without}
use Rattle.mx_states.specs.Entries.{has_entry}
use Rattle.mx_state_res.specs.Resolution.{in_every, unconflicted, auth_difference, full_conflicted}
use Rattle.mx_state_res.proofs.TestLemmas.{one-answer}
use Rattle.mx_states.proofs.KeyLemmas.{Sorted}
use Rattle.mx_states.proofs.EntryLemmas.{entry-without, equal-keys}
use Rattle.mx_state_res.proofs.SetLemmas.{shown, all-at, all-of, is_in-append}
use Rattle.mx_state_res.proofs.AgreedLemmas.{has_entry-filter}
use Rattle.mx_state_res.proofs.EqualStateLemmas.{find-own}
use Rattle.mx_state_res.proofs.ConflictLemmas.{lacks, gathered, full-is}
use Rattle.mx_states.proofs.DifferingLemmas.{has-found}
use Rattle.mx_state_res.proofs.SharedLemmas.{made-of, every-at}
use Rattle.mx_state_res.proofs.ChainLemmas.{difference-of-others}

-- ---- entries

pub find-in : (k : Key) (s : State) (p : ℕ) → entry s k ≡ Some p → In (k, p) s
find-in k [] p e = absurd (cc e)
find-in k (f ∷ s) p e = by (is_eq (key_cmp k f.0)) refl e (find-in k s p)
  where
    same : Some f.1 ≡ Some p → p ≡ f.1
    same e = sym (cc e)

    by : (b : Bool) → is_eq (key_cmp k f.0) ≡ b → cond b (Some f.1) (find key_cmp k s) ≡ Some p → (entry s k ≡ Some p → In (k, p) s) → In (k, p) (f ∷ s)
    by true c e later = let q : k ≡ f.0 = equal-keys k f.0 c in let r : p ≡ f.1 = same e in inl (λ i. (q i, r i))
    by false c e later = inr (later e)

pub every-from : (states : List State) (e : Key × ℕ) → ((t : State) → In t states → has_entry e t ≡ true) → in_every states e ≡ true
every-from [] e h = refl
every-from (t ∷ ts) e h = ap₂ (λ a b. a && b) (h t (inl refl)) (every-from ts e (λ u m. h u (inr m)))

filter-same : {A : Type 0} (f g : A → Bool) (xs : List A) → ((x : A) → In x xs → f x ≡ g x) → filter f xs ≡ filter g xs
filter-same f g [] h = refl
filter-same f g (x ∷ xs) h = ap (λ b. cond b (x ∷ filter f xs) (filter f xs)) (h x (inl refl)) ∙ ap (λ ys. cond (g x) (x ∷ ys) ys) (filter-same f g xs (λ y m. h y (inr m)))

pub has-some : (o : Option ℕ) (p : ℕ) → o ≡ Some p → is_some_and (λ q. q == p) o ≡ true
has-some o p e = ap (is_some_and (λ q. q == p)) e ∙ eq-eqb p p refl

none-none : (o : Option ℕ) → is_none o ≡ true → o ≡ None
none-none None e = refl
none-none (Some x) e = absurd (cc e)

none-some : (o : Option ℕ) → o ≡ None → is_none o ≡ true
none-some o e = ap is_none e

pub agreed-all : (s : State) (ss : List State) → Sorted s → IsAgreed (unconflicted (s ∷ ss)) (s ∷ ss)
unfolding unconflicted
agreed-all s ss h e = has_entry-filter (in_every ss) s h e

-- ---- states and the keys at which they are not all alike

module _ (keys s : State) (ss : List State) (ordered : Sorted keys) (sorted : (t : State) → In t (s ∷ ss) → Sorted t) (differing : IsDiffering keys (s ∷ ss)) where
  own : (t : State) → In t (s ∷ ss) → (e : Key × ℕ) → In e t → entry t e.0 ≡ Some e.1
  own t m e k = find-own t (sorted t m) e k

  -- at another key each state has what the first one has
  pub alike : (k : Key) → entry keys k ≡ None → (t : State) → In t (s ∷ ss) → entry t k ≡ entry s k
  alike k e t (inl q) = ap (λ u. entry u k) q
  alike k e t (inr m) = all-at (λ t. entry t k ≡ entry s k) ss ((differing k).0 e) t m

  pub unconflicted-is : without keys s ≡ unconflicted (s ∷ ss)
  unfolding unconflicted
  unconflicted-is =
      filter-same (λ (e : Key × ℕ). is_none (entry keys e.0)) (in_every ss) s
      (λ e m. one-answer (is_none (entry keys e.0)) (in_every ss e)
      (λ h. every-from ss e (λ t k. has-some (entry t e.0) e.1 (alike e.0 (none-none (entry keys e.0) h) t (inr k) ∙ own s (inl refl) e m)))
      (λ h. none-some (entry keys e.0) ((differing e.0).1 (all-of (λ t. entry t e.0 ≡ entry s e.0) ss (λ t k. has-found (entry t e.0) e.1 (every-at ss e h t k) ∙ sym (own s (inl refl) e m))))))

  abbrev agreed : State
  agreed = without keys s

  pub agreed-at : (k : Key) → entry agreed k ≡ cond (is_none (entry keys k)) (entry s k) None
  agreed-at k = entry-without keys s k

  -- what is not agreed on is at the keys
  pub lacks-at : (t : State) → In t (s ∷ ss) → (p : ℕ) → is_in (events_at keys t) p ≡ is_in (events_of (filter (lacks agreed) t)) p
  lacks-at t m p = one-answer (is_in (events_at keys t) p) (is_in (events_of (filter (lacks agreed) t)) p) to from
    where
      listed : (o : Option ℕ) → In p (option_list o) → o ≡ Some p
      listed None h = absurd h
      listed (Some q) (inl e) = ap Some (sym e)
      listed (Some q) (inr h) = absurd h

      in_list : (o : Option ℕ) → o ≡ Some p → In p (option_list o)
      in_list None e = absurd (cc e)
      in_list (Some q) e = inl (cc e)

      to : is_in (events_at keys t) p ≡ true → is_in (events_of (filter (lacks agreed) t)) p ≡ true
      to h =
          let r = in_flat_map-from (λ (e : Key × ℕ). option_list (entry t e.0)) p keys (is_in-to p (events_at keys t) h) in
          let f : Key × ℕ = r.0 in
          let there : entry t f.0 ≡ Some p = listed (entry t f.0) r.2 in
          let none : entry agreed f.0 ≡ None = agreed-at f.0 ∙ ap (λ o. cond (is_none o) (entry s f.0) None) (find-own keys ordered f r.1) in
          let e : Key × ℕ = (f.0, p) in
          is_in-from p (events_of (filter (lacks agreed) t))
          (in_map (λ (e : Key × ℕ). e.1) e (filter (lacks agreed) t) (in_filter (lacks agreed) e t (find-in f.0 t p there) (ap (λ o. not (is_some_and (λ q. q == p) o)) none)))

      at_key : (e : Key × ℕ) → In e t → lacks agreed e ≡ true → p ≡ e.1 → (o : Option ℕ) → entry keys e.0 ≡ o → is_in (events_at keys t) p ≡ true
      at_key e k l q None d =
          let has : has_entry e agreed ≡ true =
          has-some (entry agreed e.0) e.1 (agreed-at e.0 ∙ ap (λ o. cond (is_none o) (entry s e.0) None) d ∙ sym (alike e.0 d t m) ∙ own t m e k) in
          absurd (cc (sym l ∙ ap not has))
      at_key e k l q (Some x) d =
          is_in-from p (events_at keys t)
          (in_flat_map (λ (e : Key × ℕ). option_list (entry t e.0)) (e.0, x) p keys (find-in e.0 keys x d) (in_list (entry t e.0) (own t m e k ∙ ap Some (sym q))))

      from : is_in (events_of (filter (lacks agreed) t)) p ≡ true → is_in (events_at keys t) p ≡ true
      from h =
          let r = in_map-from (λ (e : Key × ℕ). e.1) p (filter (lacks agreed) t) (is_in-to p (events_of (filter (lacks agreed) t)) h) in
          let k = in_filter-parts (lacks agreed) r.0 t r.1 in
          at_key r.0 k.0 k.1 r.2 (entry keys r.0.0) refl

  zipped : (ts : List State) → ((t : State) → In t ts → In t (s ∷ ss)) → AllZip (λ others events. (p : ℕ) → is_in events p ≡ (is_in (events_of agreed) p || is_in others p)) (map (events_at keys) ts) (map events_of ts)
  zipped [] within = tt
  zipped (t ∷ ts) within =
      (λ p. made-of agreed (s ∷ ss) unconflicted-is t (within t (inl refl)) p ∙ ap (λ b. is_in (events_of agreed) p || b) (sym (lacks-at t (within t (inl refl)) p)), zipped ts (λ u m. within u (inr m)))

  pub difference-is : (rows : List Row) → IsSound rows → chain_difference rows (events_of agreed) (map (events_at keys) (s ∷ ss)) ≡ auth_difference rows (s ∷ ss)
  difference-is rows sound = sym (difference-of-others rows (events_of agreed) (map (events_at keys) (s ∷ ss)) (s ∷ ss) sound (zipped (s ∷ ss) (λ t m. m)))

  abbrev borrowed : State → Bor State
  borrowed t = record { ref_ptr = (0, 0); now = t }

  shown-borrowed : (ts : List State) → shown (map borrowed ts) ≡ ts
  shown-borrowed [] = refl
  shown-borrowed (t ∷ ts) = ap (λ us. t ∷ us) (shown-borrowed ts)

  gathered-at : (ts : List State) → ((t : State) → In t ts → In t (s ∷ ss)) → (p : ℕ) → is_in (flat_map (events_at keys) ts) p ≡ is_in (gathered agreed (map borrowed ts)) p
  gathered-at [] within p = refl
  gathered-at (t ∷ ts) within p =
      is_in-append (events_at keys t) (flat_map (events_at keys) ts) p
      ∙ ap₂ (λ a b. a || b) (lacks-at t (within t (inl refl)) p) (gathered-at ts (λ u m. within u (inr m)) p)
      ∙ sym (is_in-append (events_of (filter (lacks agreed) t)) (gathered agreed (map borrowed ts)) p)

  borrowed-known : (n : ℕ) (ts : List State) → All (λ t. All (λ e. e.1 < n) t) ts → All (λ (b : Bor State). All (λ e. e.1 < n) b.now) (map borrowed ts)
  borrowed-known n [] h k d l = absurd (omega arith)
  borrowed-known n (t ∷ ts) h zero d l = h zero t (omega arith)
  borrowed-known n (t ∷ ts) h (suc k) d l = borrowed-known n ts (λ j d m. h (suc j) d (omega arith)) k d (omega arith)

  pub full-from : (rows : List Row) → IsSound rows → AreKnown rows (s ∷ ss) → (events : List ℕ) → Rises events
      → ((p : ℕ) → is_in events p ≡ (is_in (flat_map (events_at keys) (s ∷ ss)) p || is_in (chain_difference rows (events_of agreed) (map (events_at keys) (s ∷ ss))) p))
      → events ≡ full_conflicted rows (s ∷ ss)
  full-from rows sound known events rises same =
      subst (λ ts. events ≡ full_conflicted rows ts) (shown-borrowed (s ∷ ss))
      (full-is rows agreed (map borrowed (s ∷ ss)) all events (borrowed-known (length rows) (s ∷ ss) known)
      (subst (IsAgreed agreed) (sym (shown-borrowed (s ∷ ss))) (subst (λ a. IsAgreed a (s ∷ ss)) (sym unconflicted-is) (agreed-all s ss (sorted s (inl refl)))))
      refl rises (λ p. same p ∙ members p))
    where
      all : List ℕ
      all = gathered agreed (map borrowed (s ∷ ss)) ++ auth_difference rows (shown (map borrowed (s ∷ ss)))

      difference : chain_difference rows (events_of agreed) (map (events_at keys) (s ∷ ss)) ≡ auth_difference rows (shown (map borrowed (s ∷ ss)))
      difference = difference-is rows sound ∙ ap (auth_difference rows) (sym (shown-borrowed (s ∷ ss)))

      members : (p : ℕ) → (is_in (flat_map (events_at keys) (s ∷ ss)) p || is_in (chain_difference rows (events_of agreed) (map (events_at keys) (s ∷ ss))) p) ≡ is_in all p
      members p =
          ap₂ (λ a b. a || b) (gathered-at (s ∷ ss) (λ t m. m) p) (ap (λ xs. is_in xs p) difference)
          ∙ sym (is_in-append (gathered agreed (map borrowed (s ∷ ss))) (auth_difference rows (shown (map borrowed (s ∷ ss)))) p)

-- ---- by numbers

pub at-sorted : (at : ℕ → State) (numbers : List ℕ) → All (λ n. Sorted (at n)) numbers → (t : State) → In t (map at numbers) → Sorted t
at-sorted at numbers h t m = let r = in_map-from at t numbers m in subst Sorted (sym r.2) (all-at (λ n. Sorted (at n)) numbers h r.0 r.1)

pub events_at-known : (n : ℕ) (keys s : State) → All (λ e. e.1 < n) s → (p : ℕ) → In p (events_at keys s) → p < n
events_at-known n keys s h p m = let r = in_flat_map-from (λ (e : Key × ℕ). option_list (entry s e.0)) p keys m in by r.0 (entry s r.0.0) refl r.2
  where
    by : (f : Key × ℕ) (o : Option ℕ) → entry s f.0 ≡ o → In p (option_list o) → p < n
    by f None e k = absurd k
    by f (Some q) e (inl k) = subst (λ z. z < n) (sym k) (all-at (λ (e : Key × ℕ). e.1 < n) s h (f.0, q) (find-in f.0 s q e))
    by f (Some q) e (inr k) = absurd k

pub apart-known : (rows : List Row) (at : ℕ → State) (keys : State) (numbers : List ℕ) → AreKnown rows (map at numbers) → (vs : List (Vec ℕ Global)) → map (λ (v : Vec ℕ Global). v.items) vs ≡ map (λ n. events_at keys (at n)) numbers
    → All (λ (v : Vec ℕ Global). All (λ p. p < length rows) v.items) vs
apart-known rows at keys numbers known vs e =
    all-of (λ (v : Vec ℕ Global). All (λ p. p < length rows) v.items) vs
    (λ v m. all-of (λ p. p < length rows) v.items
    (λ p k.
    let r = in_map-from (λ n. events_at keys (at n)) v.items numbers (subst (In v.items) e (in_map (λ (v : Vec ℕ Global). v.items) v vs m)) in
    events_at-known (length rows) keys (at r.0) (all-at (λ s. All (λ e. e.1 < length rows) s) (map at numbers) known (at r.0) (in_map at r.0 numbers r.1)) p (subst (In p) r.2 k)))

pub shared-known : (rows : List Row) (keys s : State) → All (λ e. e.1 < length rows) s → All (λ p. p < length rows) (events_of (without keys s))
shared-known rows keys s h =
    all-of (λ p. p < length rows) (events_of (without keys s))
    (λ p m.
    let r = in_map-from (λ (e : Key × ℕ). e.1) p (without keys s) m in
    subst (λ z. z < length rows) (sym r.2) (all-at (λ (e : Key × ℕ). e.1 < length rows) s h r.0 (in_filter-parts (λ (e : Key × ℕ). is_none (entry keys e.0)) r.0 s r.1).0))

pub known-one : (rows : List Row) (states : List State) (n : ℕ) → AreKnown rows states → n < length states → All (λ e. e.1 < length rows) (state_at states n)
known-one rows states n known l = known n [] l
