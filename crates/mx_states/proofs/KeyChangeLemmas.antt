-- Changes by the numbers of keys, and the keys at which two numbered states differ.
use Rattle.std.proofs.Common.{◌≡◌, ◌≢◌, ℕ, ◌+◌, ◌<◌, ◌≤◌, Bool, true, false, cond, ◌||◌, length, get_or, map, ◌++◌, List, [], ◌∷◌, Some, None, take, refl, sym, ap, subst, ◌∙◌, arith, eq-eqb, eqb-true, ◌==◌}
use Rattle.std.specs.Prelude.{Option, All, Contains, ◌↔◌, is_some, is_none, option_map, unwrap_or}
use Rattle.std.specs.declared.cmp.Ordering.{Ordering}
use Rattle.std.specs.Option.{option_and_then, option_or}
use Rattle.std.specs.Ordering.{nat_cmp, eq_by_cmp}
use Rattle.std.specs.FinMap.Entries.{find, put, find-put}
use Rattle.std.proofs.lemmas.List.{take_more}
use Rattle.std.proofs.lemmas.List.Elements.{Contains-get_or}
use Rattle.std.proofs.lemmas.List.Folds.{Any-from_list_any, list_any-from_Any}
use Rattle.mx_states.specs.Entries.{has_missed, overwritten}
use Rattle.mx_states.proofs.DifferingLemmas.{differ_at, alike-to, alike-from}
use Rattle.mx_pdu.specs.StateKeys.{Key}
use Rattle.mx_graph.specs.StateMap.{State, key_cmp, entry}
use Rattle.mx_states.specs.KeyNumbers.{key_at, number_of, with_key, AreDistinct, AreGrown, AreShown, shown, AllBelow, changes_at, has_number_in, AreChanges}
use Rattle.mx_states.specs.Numbered.{state_at, without}
use Rattle.mx_states.specs.SnapshotEntries.{changed, snapshot, DifferAt}
use Rattle.mx_states.proofs.KeyLemmas.{Sorted, key_cmp-total}
use Rattle.mx_states.proofs.EntryLemmas.{same-states, entry-overwritten, entry-without, sorted-overwritten, sorted-without}
use Rattle.mx_states.proofs.SnapshotEntryLemmas.{find-changed}
use Rattle.mx_states.proofs.KeyNumberLemmas.{is_number, number-push, eq-same, with_key-distinct, with_key-grown, grown-none, grown-again}
use Rattle.mx_states.proofs.ShownLemmas.{at_number, at_number-put, at_same, nat_same, bool_same, key-itself, entry-shown, state-shown, find-shown, sorted-shown, below-longer, below-push, below-changed, below-at}

-- ---- entries behind entries

find-joined : {K X : Type 0} (R : K → K → Ordering) (q : K) (es fs : List (K × X)) → find R q (es ++ fs) ≡ option_or (find R q es) (find R q fs)
find-joined R q [] fs = refl
find-joined {K} {X} R q (e ∷ es) fs = by (eq_by_cmp R q e.0) (find-joined R q es fs)
  where
    by : (b : Bool) → find R q (es ++ fs) ≡ option_or (find R q es) (find R q fs) → cond b (Some e.1) (find R q (es ++ fs)) ≡ option_or (cond b (Some e.1) (find R q es)) (find R q fs)
    by true h = refl
    by false h = h

find-past : {X : Type 0} (bound n : ℕ) (cs : List (ℕ × X)) → AllBelow bound cs → bound ≤ n → find nat_cmp n cs ≡ None
find-past bound n [] h l = refl
find-past {X} bound n (c ∷ cs) h l = by (eq_by_cmp nat_cmp n c.0) refl (find-past bound n cs h.1 l)
  where
    by : (b : Bool) → eq_by_cmp nat_cmp n c.0 ≡ b → find nat_cmp n cs ≡ None → cond b (Some c.1) (find nat_cmp n cs) ≡ None
    by true e k = let same : n ≡ c.0 = nat_same n c.0 e in absurd (omega (arith, h.0))
    by false e k = k

-- ---- one key more changes nothing at the others

changes-grown : (keys : List Key) (key q : Key) (cs : List (ℕ × Option ℕ)) → AllBelow (length keys) cs → changes_at (with_key keys key) cs q ≡ changes_at keys cs q
changes-grown keys key q cs h = by (number_of keys key) refl
  where
    new : number_of keys key ≡ None → (b : Bool) → eq_by_cmp key_cmp q key ≡ b
        → option_and_then (λ n. find nat_cmp n cs) (cond b (Some (length keys)) (number_of keys q)) ≡ option_and_then (λ n. find nat_cmp n cs) (number_of keys q)
    new none true e =
        find-past (length keys) (length keys) cs h (omega arith)
        ∙ sym (ap (option_and_then (λ n. find nat_cmp n cs)) (ap (number_of keys) (eq-same q key e) ∙ none))
    new none false e = refl

    by : (o : Option ℕ) → number_of keys key ≡ o → changes_at (cond (is_some o) keys (keys ++ key ∷ [])) cs q ≡ changes_at keys cs q
    by (Some n) e = refl
    by None e = ap (option_and_then (λ n. find nat_cmp n cs)) (number-push keys key q e) ∙ new e (eq_by_cmp key_cmp q key) refl

-- ---- one change more

at-or : {X : Type 0} (keys : List Key) (f g : ℕ → Option X) (q : Key) → at_number keys (λ n. option_or (f n) (g n)) q ≡ option_or (at_number keys f q) (at_number keys g q)
at-or {X} keys f g q = by (number_of keys q)
  where
    by : (o : Option ℕ) → option_and_then (λ n. option_or (f n) (g n)) o ≡ option_or (option_and_then f o) (option_and_then g o)
    by None = refl
    by (Some n) = refl

at-nothing : {X : Type 0} (keys : List Key) (q : Key) → at_number {X = X} keys (λ n. None) q ≡ None
at-nothing {X} keys q = by (number_of keys q)
  where
    by : (o : Option ℕ) → option_and_then {U = X} (λ n. None) o ≡ None
    by None = refl
    by (Some n) = refl

or-again : {X : Type 0} (a b c : Option X) → option_or (option_or a b) c ≡ option_or a (option_or b c)
or-again None b c = refl
or-again (Some x) b c = refl

map-or : (f : ℕ → Option ℕ) (o : Option ℕ) (b : Bool) (v : ℕ) → option_or (option_map f o) (cond b (Some (f v)) None) ≡ option_map f (option_or o (cond b (Some v) None))
map-or f (Some x) b v = refl
map-or f None true v = refl
map-or f None false v = refl

pub changes-none : (keys : List Key) (cs : List (ℕ × Option ℕ)) (f : ℕ → Option ℕ) → AreDistinct keys → AllBelow (length keys) cs → AreChanges keys keys cs cs f []
changes-none keys cs f d b = record { grown = grown-none keys; distinct = d; below = b; found = λ q. sym (or-none (changes_at keys cs q)) }
  where
    or-none : (o : Option (Option ℕ)) → option_or o None ≡ o
    or-none None = refl
    or-none (Some x) = refl

pub changes-more : (old keys new : List Key) (before cs after : List (ℕ × Option ℕ)) (f : ℕ → Option ℕ) (s : State) (i n : ℕ) (key : Key) (v : ℕ) (d : Key × ℕ) → AreChanges old keys before cs f (take i s)
    → new ≡ with_key keys key → number_of new key ≡ Some n → after ≡ cs ++ (n, f v) ∷ [] → i < length s → get_or s i d ≡ (key, v) → AreChanges old new before after f (take (i + 1) s)
changes-more old keys new before cs after f s i n key v d h e number is l at = record {
  grown = grown-again old keys new h.grown g;
  distinct = distinct;
  below = subst (AllBelow (length new)) (sym is) (below-push (length new) cs (n, f v) (below-longer (length keys) (length new) cs g.longer h.below) bound);
  found = λ q.
      ap (λ c. changes_at new c q) is ∙ at_same new (λ j. find nat_cmp j (cs ++ (n, f v) ∷ [])) (λ j. option_or (find nat_cmp j cs) (find nat_cmp j ((n, f v) ∷ []))) q (λ j. find-joined nat_cmp j cs ((n, f v) ∷ []))
      ∙ at-or new (λ j. find nat_cmp j cs) (λ j. find nat_cmp j ((n, f v) ∷ [])) q
      ∙ ap (option_or (changes_at new cs q)) (last q)
      ∙ ap (λ (o : Option (Option ℕ)). option_or o (cond (eq_by_cmp key_cmp q key) (Some (f v)) None)) (ap (λ ks. changes_at ks cs q) e ∙ changes-grown keys key q cs h.below ∙ h.found q)
      ∙ or-again (changes_at old before q) (option_map f (entry (take i s) q)) (cond (eq_by_cmp key_cmp q key) (Some (f v)) None)
      ∙ ap (option_or (changes_at old before q)) (map-or f (entry (take i s) q) (eq_by_cmp key_cmp q key) v ∙ ap (option_map f) (sym (find-joined key_cmp q (take i s) ((key, v) ∷ [])) ∙ ap (find key_cmp q) (sym next)));
}
  where
    g : AreGrown keys new
    g = subst (AreGrown keys) (sym e) (with_key-grown keys key)

    distinct : AreDistinct new
    distinct = subst AreDistinct (sym e) (with_key-distinct keys key h.distinct)

    bound : n < length new
    bound = (is_number new key n number).below

    next : take (i + 1) s ≡ take i s ++ (key, v) ∷ []
    next = take_more s i d l ∙ ap (λ x. take i s ++ x ∷ []) at

    last : (q : Key) → at_number new (λ j. find nat_cmp j ((n, f v) ∷ [])) q ≡ cond (eq_by_cmp key_cmp q key) (Some (f v)) None
    last q =
        at_number-put new (λ j. None) q n (Some (f v)) distinct bound
        ∙ ap (cond (eq_by_cmp key_cmp q (key_at new n)) (Some (f v))) (at-nothing new q)
        ∙ ap (λ k. cond (eq_by_cmp key_cmp q k) (Some (f v)) None) (is_number new key n number).has

-- the changes of puts, and then those of removals
pub changes-both : (old keys new : List Key) (first cs after : List (ℕ × Option ℕ)) (puts taken : State) → first ≡ [] → AreChanges old keys first cs (λ v. Some v) puts → AreChanges keys new cs after (λ v. None) taken
    → (q : Key) → changes_at new after q ≡ option_or (option_map (λ v. Some v) (entry puts q)) (option_map (λ v. None) (entry taken q))
changes-both old keys new first cs after puts taken e g h q =
    h.found q
    ∙ ap (λ (o : Option (Option ℕ)). option_or o (option_map (λ v. None) (entry taken q)))
    (g.found q ∙ ap (λ (o : Option (Option ℕ)). option_or o (option_map (λ v. Some v) (entry puts q))) (ap (λ c. changes_at old c q) e ∙ at-nothing old q))

-- ---- the state that the changes make

made : (p t : Option ℕ) (old : Option ℕ) → unwrap_or (option_or (option_map (λ v. Some v) p) (option_map (λ v. None) t)) old ≡ option_or p (cond (is_none t) old None)
made (Some v) t old = refl
made None (Some v) old = refl
made None None old = refl

unmade : (p t : Option ℕ) → None ≡ option_or (option_map (λ v. Some v) p) (option_map (λ v. None) t) → None ≡ option_or p (cond (is_none t) None None)
unmade (Some v) t e = absurd (cc e)
unmade None (Some v) e = absurd (cc e)
unmade None None e = refl

pub shown-changed : (keys : List Key) (cs : List (ℕ × Option ℕ)) (m : List (ℕ × ℕ)) (puts taken : State) → AreDistinct keys → AllBelow (length keys) cs → AllBelow (length keys) m → Sorted puts
    → ((q : Key) → changes_at keys cs q ≡ option_or (option_map (λ v. Some v) (entry puts q)) (option_map (λ v. None) (entry taken q)))
    → shown keys (changed cs m) ≡ overwritten (without taken (shown keys m)) puts
shown-changed keys cs m puts taken d bc bm order h =
    same-states (shown keys (changed cs m)) (overwritten (without taken (shown keys m)) puts) (sorted-shown keys (changed cs m))
    (sorted-overwritten puts (without taken (shown keys m)) (sorted-without taken (shown keys m) (sorted-shown keys m)))
    (λ q. find-shown keys (changed cs m) q d (below-changed (length keys) cs m bc bm)
    ∙ at_same keys (λ n. find nat_cmp n (changed cs m)) (λ n. unwrap_or (find nat_cmp n cs) (find nat_cmp n m)) q (λ n. find-changed n cs m)
    ∙ by q (number_of keys q) (h q)
    ∙ ap (λ o. option_or (entry puts q) (cond (is_none (entry taken q)) o None)) (sym (find-shown keys m q d bm))
    ∙ ap (option_or (entry puts q)) (sym (entry-without taken (shown keys m) q)) ∙ sym (entry-overwritten puts (without taken (shown keys m)) q order))
  where
    by : (q : Key) (o : Option ℕ) → option_and_then (λ n. find nat_cmp n cs) o ≡ option_or (option_map (λ v. Some v) (entry puts q)) (option_map (λ v. None) (entry taken q))
        → option_and_then (λ n. unwrap_or (find nat_cmp n cs) (find nat_cmp n m)) o ≡ option_or (entry puts q) (cond (is_none (entry taken q)) (option_and_then (λ n. find nat_cmp n m) o) None)
    by q None e = unmade (entry puts q) (entry taken q) e
    by q (Some n) e = ap (λ (o : Option (Option ℕ)). unwrap_or o (find nat_cmp n m)) e ∙ made (entry puts q) (entry taken q) (find nat_cmp n m)

-- ---- the keys at which two numbered states differ

pub found-below : {X : Type 0} (bound n : ℕ) (es : List (ℕ × X)) (v : X) → AllBelow bound es → find nat_cmp n es ≡ Some v → n < bound
found-below bound n [] v h e = absurd (cc e)
found-below {X} bound n (x ∷ es) v h e = by (eq_by_cmp nat_cmp n x.0) refl e (found-below bound n es v h.1)
  where
    by : (b : Bool) → eq_by_cmp nat_cmp n x.0 ≡ b → cond b (Some x.1) (find nat_cmp n es) ≡ Some v → (find nat_cmp n es ≡ Some v → n < bound) → n < bound
    by true t f rest = let same : n ≡ x.0 = nat_same n x.0 t in omega (arith, h.0)
    by false t f rest = rest f

pub differing-below : (keys : List Key) (maps : List (List (ℕ × ℕ))) (a b n : ℕ) → AreShown keys maps → DifferAt n (snapshot maps a) (snapshot maps b) → n < length keys
differing-below keys maps a b n h differ = by (find nat_cmp n (snapshot maps a)) refl (find nat_cmp n (snapshot maps b)) refl
  where
    by : (o : Option ℕ) → find nat_cmp n (snapshot maps a) ≡ o → (r : Option ℕ) → find nat_cmp n (snapshot maps b) ≡ r → n < length keys
    by (Some v) e r f = found-below (length keys) n (snapshot maps a) v (below-at (length keys) maps a h.below) e
    by None e (Some v) f = found-below (length keys) n (snapshot maps b) v (below-at (length keys) maps b h.below) f
    by None e None f = absurd (differ (e ∙ sym f))

pub none-alike : (a b : Option ℕ) → option_or a b ≡ None → a ≡ b
none-alike None b e = sym e
none-alike (Some x) b e = absurd (cc e)

put-differs : (b : Bool) (v : ℕ) (o : Option ℕ) (m : Bool) → (is_some (cond b (Some v) o) || m) ≡ (is_some o || (b || m))
put-differs true v None m = refl
put-differs true v (Some x) m = refl
put-differs false v None m = refl
put-differs false v (Some x) m = refl

pub differing-put : (keys : List Key) (found after : State) (numbers rest : List ℕ) (n v : ℕ) (q : Key) → numbers ≡ n ∷ rest → after ≡ put key_cmp (key_at keys n) v found
    → (is_some (entry after q) || has_number_in keys rest q) ≡ (is_some (entry found q) || has_number_in keys numbers q)
differing-put keys found after numbers rest n v q d e =
    ap (λ s. is_some (entry s q) || has_number_in keys rest q) e
    ∙ ap (λ o. is_some o || has_number_in keys rest q) (find-put key_cmp key_cmp-total q (key_at keys n) v found)
    ∙ put-differs (eq_by_cmp key_cmp q (key_at keys n)) v (entry found q) (has_number_in keys rest q)
    ∙ ap (λ ns. is_some (entry found q) || has_number_in keys ns q) (sym d)

pub key_of_texts : (kind state_key : List ℕ) (key : Key) → kind ≡ key.0 → state_key ≡ key.1 → key ≡ (kind, state_key)
key_of_texts kind state_key key p q = λ i. (sym p i, sym q i)

pub all-contained : (P : ℕ → Type 0) (xs : List ℕ) → ((x : ℕ) → Contains xs x ↔ P x) → All P xs
all-contained P xs h k d l = (h (get_or xs k d)).0 (Contains-get_or xs k d l)

alike_stable : (a b : Option ℕ) → (a ≢ b → ⊥) → a ≡ b
alike_stable None None h = refl
alike_stable None (Some y) h = absurd (h (λ e. cc e))
alike_stable (Some x) None h = absurd (h (λ e. cc e))
alike_stable (Some x) (Some y) h = by (x == y) refl
  where
    by : (b : Bool) → (x == y) ≡ b → Some x ≡ Some y
    by true e = ap Some (eqb-true x y e)
    by false e = absurd (h (λ f. let t : (x == y) ≡ true = eq-eqb x y (ap (λ o. unwrap_or o x) f) in let wrong : false ≡ true = sym e ∙ t in cc wrong))

-- a key has one of the numbers at which the snapshots differ where one state misses what the other has there
differing-is : (keys : List Key) (maps : List (List (ℕ × ℕ))) (all : List State) (a b : ℕ) (numbers : List ℕ) (q : Key) → AreShown keys maps → map (shown keys) maps ≡ all
    → ((n : ℕ) → Contains numbers n ↔ DifferAt n (snapshot maps a) (snapshot maps b)) → has_number_in keys numbers q ≡ differ_at (state_at all a) (state_at all b) q
differing-is keys maps all a b numbers q h is exact = bool_same _ _ (λ e. there e (differ_at s t q) refl) (λ e. back e (has_number_in keys numbers q) refl)
  where
    s : State
    s = state_at all a

    t : State
    t = state_at all b

    at_a : entry s q ≡ at_number keys (λ n. find nat_cmp n (snapshot maps a)) q
    at_a = entry-shown keys maps all a q h is

    at_b : entry t q ≡ at_number keys (λ n. find nat_cmp n (snapshot maps b)) q
    at_b = entry-shown keys maps all b q h is

    order_a : Sorted s
    order_a = subst Sorted (sym (state-shown keys maps all a is)) (sorted-shown keys (snapshot maps a))

    order_b : Sorted t
    order_b = subst Sorted (sym (state-shown keys maps all b is)) (sorted-shown keys (snapshot maps b))

    found : (n : ℕ) → Contains numbers n → eq_by_cmp key_cmp q (key_at keys n) ≡ true → entry t q ≡ entry s q → ⊥
    found n c k e =
        let differ : DifferAt n (snapshot maps a) (snapshot maps b) = (exact n).0 c in
        let number : number_of keys q ≡ Some n = ap (number_of keys) (eq-same q (key_at keys n) k) ∙ h.distinct n (differing-below keys maps a b n h differ) in
        differ (sym (at_a ∙ ap (option_and_then (λ j. find nat_cmp j (snapshot maps a))) number) ∙ sym e ∙ at_b ∙ ap (option_and_then (λ j. find nat_cmp j (snapshot maps b))) number)

    there : has_number_in keys numbers q ≡ true → (d : Bool) → differ_at s t q ≡ d → differ_at s t q ≡ true
    there e true f = f
    there e false f =
        let any = Any-from_list_any (λ n. eq_by_cmp key_cmp q (key_at keys n)) numbers e in
        absurd (found any.1 (any.0, any.2, any.3) any.4 (alike-to s t q f))

    alike : has_number_in keys numbers q ≡ false → (o : Option ℕ) → number_of keys q ≡ o → option_and_then (λ n. find nat_cmp n (snapshot maps b)) o ≡ option_and_then (λ n. find nat_cmp n (snapshot maps a)) o
    alike e None f = refl
    alike e (Some n) f = sym (alike_stable (find nat_cmp n (snapshot maps a)) (find nat_cmp n (snapshot maps b)) (λ differ. contained ((exact n).1 differ)))
      where
        contained : Contains numbers n → ⊥
        contained c =
            let k : eq_by_cmp key_cmp q (key_at keys n) ≡ true = ap (eq_by_cmp key_cmp q) (is_number keys q n f).has ∙ key-itself q in
            let has : has_number_in keys numbers q ≡ true = list_any-from_Any (λ m. eq_by_cmp key_cmp q (key_at keys m)) numbers (c.0, n, c.1, c.2, k) in
            let wrong : false ≡ true = sym e ∙ has in
            cc wrong

    back : differ_at s t q ≡ true → (d : Bool) → has_number_in keys numbers q ≡ d → has_number_in keys numbers q ≡ true
    back e true f = f
    back e false f =
        let same : entry t q ≡ entry s q = at_b ∙ alike f (number_of keys q) refl ∙ sym at_a in
        let wrong : false ≡ true = sym (alike-from s t q order_a order_b same) ∙ e in
        absurd (cc wrong)

or-apart : (a b c : Bool) → (a || (b || c)) ≡ ((a || b) || c)
or-apart true b c = refl
or-apart false b c = refl

pub differing-found : (keys : List Key) (maps : List (List (ℕ × ℕ))) (all : List State) (a b : ℕ) (numbers : List ℕ) (old : State) (q : Key) → AreShown keys maps → map (shown keys) maps ≡ all
    → ((n : ℕ) → Contains numbers n ↔ DifferAt n (snapshot maps a) (snapshot maps b))
    → (is_some (entry old q) || has_number_in keys numbers q) ≡ ((is_some (entry old q) || has_missed (state_at all b) (state_at all a) q) || has_missed (state_at all a) (state_at all b) q)
differing-found keys maps all a b numbers old q h is exact =
    ap (λ d. is_some (entry old q) || d) (differing-is keys maps all a b numbers q h is exact)
    ∙ or-apart (is_some (entry old q)) (has_missed (state_at all b) (state_at all a) q) (has_missed (state_at all a) (state_at all b) q)
