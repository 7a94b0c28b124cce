-- The events of a state at the keys that another lacks, by the numbers of the keys.
use Rattle.std.proofs.Common.{◌≡◌, ℕ, ◌+◌, ◌==◌, ◌<◌, Bool, true, false, cond, not, ◌&&◌, ◌||◌, T, List, [], ◌∷◌, ◌++◌, filter, map, length, take, get_or, Some, None, Option, is_some, is_none, refl, sym, ap, ap₂, subst, ◌∙◌}
use Rattle.std.specs.List.{list_any}
use Rattle.std.specs.declared.cmp.Ordering.{Ordering}
use Rattle.std.specs.declared.cmp.Ordering.TheVariants.{Less, Equal, Greater}
use Rattle.std.specs.Ordering.{nat_cmp, is_eq, is_lt, eq_by_cmp}
use Rattle.std.specs.FinMap.Entries.{find, put, by_order, below_all, is_sorted}
use Rattle.std.proofs.lemmas.List.{take_more}
use Rattle.mx_graph.specs.Record.{is_in}
use Rattle.mx_pdu.specs.StateKeys.{Key}
use Rattle.mx_graph.specs.StateMap.{State, key_cmp, entry, events_of}
use Rattle.mx_states.specs.KeyNumbers.{key_at, number_of, AreDistinct, AllBelow, shown}
use Rattle.mx_states.specs.Numbered.{without}
use Rattle.mx_states.proofs.EntrySearchLemmas.{find-here}
use Rattle.mx_states.proofs.KeyLemmas.{first, second}
use Rattle.mx_states.proofs.KeyNumberLemmas.{eq-same}
use Rattle.mx_states.proofs.ShownLemmas.{bool_same, key-itself, same-number}

-- ---- entries that pass a test of their keys

kept-is : {K : Type 0} (test : K → Bool) (es : List (K × ℕ)) (p : ℕ) → is_in (map (λ e. e.1) (filter (λ e. test e.0) es)) p ≡ list_any (λ e. test e.0 && (e.1 == p)) es
kept-is test [] p = refl
kept-is test (e ∷ es) p = by (test e.0) (kept-is test es p)
  where
    by : (b : Bool) → is_in (map (λ e. e.1) (filter (λ e. test e.0) es)) p ≡ list_any (λ e. test e.0 && (e.1 == p)) es
        → is_in (map (λ e. e.1) (cond b (e ∷ filter (λ e. test e.0) es) (filter (λ e. test e.0) es))) p ≡ ((b && (e.1 == p)) || list_any (λ e. test e.0 && (e.1 == p)) es)
    by true later = ap (λ b. (e.1 == p) || b) later
    by false later = later

-- an entry at a new key is put
any-put : (test : Key × ℕ → Bool) (k : Key) (v : ℕ) (s : State) → find key_cmp k s ≡ None → list_any test (put key_cmp k v s) ≡ (test (k, v) || list_any test s)
any-put test k v [] h = refl
any-put test k v (e ∷ s) h = by (key_cmp k e.0) h (any-put test k v s)
  where
    turned : (a b c : Bool) → (a || (b || c)) ≡ (b || (a || c))
    turned true true c = refl
    turned true false c = refl
    turned false true c = refl
    turned false false c = refl

    by : (r : Ordering) → cond (is_eq r) (Some e.1) (find key_cmp k s) ≡ None → (find key_cmp k s ≡ None → list_any test (put key_cmp k v s) ≡ (test (k, v) || list_any test s))
        → list_any test (by_order r ((k, v) ∷ e ∷ s) ((e.0, v) ∷ s) (e ∷ put key_cmp k v s)) ≡ (test (k, v) || (test e || list_any test s))
    by Less g later = refl
    by Equal g later = absurd (cc g)
    by Greater g later = ap (λ b. test e || b) (later g) ∙ turned (test e) (test (k, v)) (list_any test s)

-- no entry is at a lesser number
below-none : (k : ℕ) (m : List (ℕ × ℕ)) → T (below_all nat_cmp k m) → find nat_cmp k m ≡ None
below-none k [] h = refl
below-none k (e ∷ m) h = by (nat_cmp k e.0) (first _ _ h) (below-none k m (second _ _ h))
  where
    by : (r : Ordering) → T (is_lt r) → find nat_cmp k m ≡ None → cond (is_eq r) (Some e.1) (find nat_cmp k m) ≡ None
    by Less t later = later
    by Equal t later = absurd t
    by Greater t later = later

-- a test of keys gives for the entries by number what it gives for those of the state
module _ (keys : List Key) (distinct : AreDistinct keys) (test : Key → Bool) (test_at : ℕ → Bool) (tests : (n : ℕ) → n < length keys → test_at n ≡ test (key_at keys n)) (p : ℕ) where
  any-shown : (m : List (ℕ × ℕ)) → AllBelow (length keys) m → T (is_sorted nat_cmp m) → list_any (λ e. test_at e.0 && (e.1 == p)) m ≡ list_any (λ e. test e.0 && (e.1 == p)) (shown keys m)
  any-shown [] b o = refl
  any-shown (e ∷ m) b o =
      ap₂ (λ t r. (t && (e.1 == p)) || r) (tests e.0 b.0) (any-shown m b.1 (second _ _ o))
      ∙ sym (any-put (λ e. test e.0 && (e.1 == p)) (key_at keys e.0) e.1 (shown keys m) (find-here keys m e.0 distinct b.1 b.0 ∙ below-none e.0 m (first _ _ o)))

-- the events that are kept are those of the state without some keys
pub kept-shown : (keys : List Key) (taken : State) (m : List (ℕ × ℕ)) (is_taken : ℕ → Bool) → AreDistinct keys → AllBelow (length keys) m → T (is_sorted nat_cmp m)
    → ((n : ℕ) → n < length keys → is_taken n ≡ is_some (entry taken (key_at keys n)))
    → (p : ℕ) → is_in (map (λ e. e.1) (filter (λ e. not (is_taken e.0)) m)) p ≡ is_in (events_of (without taken (shown keys m))) p
kept-shown keys taken m is_taken distinct below sorted are p =
    kept-is (λ n. not (is_taken n)) m p
    ∙ any-shown keys distinct (λ k. is_none (entry taken k)) (λ n. not (is_taken n)) (λ n l. ap not (are n l) ∙ turned (entry taken (key_at keys n))) p m below sorted
    ∙ sym (kept-is (λ k. is_none (entry taken k)) (shown keys m) p)
  where
    turned : (o : Option ℕ) → not (is_some o) ≡ is_none o
    turned None = refl
    turned (Some v) = refl

-- ---- the numbers of some keys

eq-turned : (a b : Key) → eq_by_cmp key_cmp a b ≡ eq_by_cmp key_cmp b a
eq-turned a b = bool_same _ _ (there a b) (there b a)
  where
    there : (a b : Key) → eq_by_cmp key_cmp a b ≡ true → eq_by_cmp key_cmp b a ≡ true
    there a b t = subst (λ z. eq_by_cmp key_cmp z a ≡ true) (eq-same a b t) (key-itself a)

module _ (keys : List Key) (distinct : AreDistinct keys) (key : Key) (n : ℕ) (l : n < length keys) (old : Bool) where
  pub number-added : (k : ℕ) (new : Bool) → number_of keys key ≡ Some k → new ≡ cond (eq_by_cmp nat_cmp k n) true old → new ≡ (old || eq_by_cmp key_cmp (key_at keys n) key)
  number-added k new is e = e ∙ ap (λ b. cond b true old) (same-number keys key k n distinct l is ∙ eq-turned key (key_at keys n)) ∙ by (eq_by_cmp key_cmp (key_at keys n) key) old
    where
      by : (b o : Bool) → cond b true o ≡ (o || b)
      by true true = refl
      by true false = refl
      by false true = refl
      by false false = refl

  pub number-missing : number_of keys key ≡ None → old ≡ (old || eq_by_cmp key_cmp (key_at keys n) key)
  number-missing is = sym (ap (λ b. old || b) (missing (eq_by_cmp key_cmp (key_at keys n) key) refl) ∙ none old)
    where
      none : (o : Bool) → (o || false) ≡ o
      none true = refl
      none false = refl

      missing : (b : Bool) → eq_by_cmp key_cmp (key_at keys n) key ≡ b → eq_by_cmp key_cmp (key_at keys n) key ≡ false
      missing true t = let wrong : None ≡ Some n = sym is ∙ ap (number_of keys) (sym (eq-same (key_at keys n) key t)) ∙ distinct n l in absurd (cc wrong)
      missing false t = t

-- one entry more
some-joined : (s : State) (e : Key × ℕ) (q : Key) → is_some (entry (s ++ e ∷ []) q) ≡ (is_some (entry s q) || eq_by_cmp key_cmp q e.0)
some-joined [] e q = by (eq_by_cmp key_cmp q e.0)
  where
    by : (b : Bool) → is_some (cond b (Some e.1) None) ≡ b
    by true = refl
    by false = refl
some-joined (f ∷ s) e q = by (eq_by_cmp key_cmp q f.0) (some-joined s e q)
  where
    by : (b : Bool) → is_some (entry (s ++ e ∷ []) q) ≡ (is_some (entry s q) || eq_by_cmp key_cmp q e.0) → is_some (cond b (Some f.1) (entry (s ++ e ∷ []) q)) ≡ (is_some (cond b (Some f.1) (entry s q)) || eq_by_cmp key_cmp q e.0)
    by true later = refl
    by false later = later

pub some-more : (s : State) (i : ℕ) (e : Key × ℕ) (q : Key) → i < length s → e ≡ get_or s i e → is_some (entry (take (i + 1) s) q) ≡ (is_some (entry (take i s) q) || eq_by_cmp key_cmp q e.0)
some-more s i e q l is = ap (λ t. is_some (entry t q)) (take_more s i e l ∙ ap (λ d. take i s ++ d ∷ []) (sym is)) ∙ some-joined (take i s) e q
