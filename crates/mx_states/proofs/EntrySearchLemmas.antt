-- A search among the entries of a state, through the numbers of their keys.
use Rattle.std.proofs.Common.{◌≡◌, ◌+◌, ◌<◌, ◌≤◌, ℕ, zero, suc, Bool, true, false, cond, ◌&&◌, ◌||◌, List, [], ◌∷◌, length, drop, filter, map, get_or, Option, Some, None, unwrap_or, refl, sym, ap, subst, ◌∙◌, arith}
use Rattle.std.specs.Option.{IfSome, option_and_then}
use Rattle.std.specs.List.{All, list_any}
use Rattle.std.specs.Ordering.{nat_cmp, eq_by_cmp}
use Rattle.std.specs.FinMap.Entries.{find}
use Rattle.std.proofs.lemmas.Bool.{and_parts, or_left, or_right}
use Rattle.std.proofs.lemmas.List.{drop_all, drop_more}
use Rattle.mx_redact.specs.Fields.{is_some_and}
use Rattle.mx_pdu.specs.StateKeys.{Key}
use Rattle.mx_graph.specs.StateMap.{State, key_cmp}
use Rattle.mx_states.specs.KeyNumbers.{key_at, number_of, numbered_from, numbers_where, AllBelow, AreDistinct, passes_at, shown}
use Rattle.mx_states.proofs.EntryLemmas.{below-none}
use Rattle.mx_states.proofs.KeyChangeLemmas.{found-below}
use Rattle.mx_states.proofs.KeyLemmas.{Sorted, first, second}
use Rattle.mx_states.proofs.KeyNumberLemmas.{eq-same}
use Rattle.mx_states.proofs.KnownLemmas.{find-known}
use Rattle.mx_states.proofs.ShownLemmas.{bool_same, find-shown, key-itself, sorted-shown}

list_any-map : {A B : Type 0} (test : B → Bool) (f : A → B) (xs : List A) → list_any test (map f xs) ≡ list_any (λ x. test (f x)) xs
list_any-map test f [] = refl
list_any-map test f (x ∷ xs) = ap (λ b. test (f x) || b) (list_any-map test f xs)

-- ---- entries that pass a test are found at their keys

record HasFound (test : Key × ℕ → Bool) (s : State) : Type 0 where
  key : Key
  event : ℕ
  found : find key_cmp key s ≡ Some event
  passes : test (key, event) ≡ true

module _ (test : Key × ℕ → Bool) where
  found-any : (s : State) (q : Key) (v : ℕ) → find key_cmp q s ≡ Some v → test (q, v) ≡ true → list_any test s ≡ true
  found-any [] q v e h = absurd (cc e)
  found-any (x ∷ s) q v e h = by (eq_by_cmp key_cmp q x.0) refl e (found-any s q v)
    where
      by : (b : Bool) → eq_by_cmp key_cmp q x.0 ≡ b → cond b (Some x.1) (find key_cmp q s) ≡ Some v → (find key_cmp q s ≡ Some v → test (q, v) ≡ true → list_any test s ≡ true) → list_any test (x ∷ s) ≡ true
      by true c f rest =
          let k : q ≡ x.0 = eq-same q x.0 c in
          let p : v ≡ x.1 = ap (λ o. unwrap_or o v) (sym f) in
          or_left (test x) (list_any test s) (subst (λ y. test y ≡ true) (λ i. (k i, p i)) h)
      by false c f rest = or_right (test x) (list_any test s) (rest f h)

  any-found : (s : State) → Sorted s → list_any test s ≡ true → HasFound test s
  any-found [] o h = absurd (cc h)
  any-found (x ∷ s) o h = by (test x) refl h (any-found s (second _ _ o))
    where
      apart : (w : HasFound test s) (b : Bool) → eq_by_cmp key_cmp w.key x.0 ≡ b → eq_by_cmp key_cmp w.key x.0 ≡ false
      apart w true c =
          let wrong : None ≡ Some w.event = sym (below-none x.0 s (first _ _ o)) ∙ ap (λ q. find key_cmp q s) (sym (eq-same w.key x.0 c)) ∙ w.found in
          absurd (cc wrong)
      apart w false c = c

      later : HasFound test s → HasFound test (x ∷ s)
      later w = record {
        key = w.key;
        event = w.event;
        found = ap (λ b. cond b (Some x.1) (find key_cmp w.key s)) (apart w (eq_by_cmp key_cmp w.key x.0) refl) ∙ w.found;
        passes = w.passes;
      }

      by : (b : Bool) → test x ≡ b → (b || list_any test s) ≡ true → (list_any test s ≡ true → HasFound test s) → HasFound test (x ∷ s)
      by true e f rest = record { key = x.0; event = x.1; found = ap (λ b. cond b (Some x.1) (find key_cmp x.0 s)) (key-itself x.0); passes = e }
      by false e f rest = later (rest f)

-- ---- keys by their numbers

-- what stands at the number of a key stands at the key
pub find-here : (keys : List Key) (m : List (ℕ × ℕ)) (n : ℕ) → AreDistinct keys → AllBelow (length keys) m → n < length keys → find key_cmp (key_at keys n) (shown keys m) ≡ find nat_cmp n m
find-here keys m n d b l = find-shown keys m (key_at keys n) d b ∙ ap (option_and_then (λ j. find nat_cmp j m)) (d n l)

-- what holds of each event of a state holds of the one at the key with a number
pub known-here : (P : ℕ → Type 0) (keys : List Key) (m : List (ℕ × ℕ)) (n : ℕ) → AreDistinct keys → AllBelow (length keys) m → All (λ e. P e.1) (shown keys m) → IfSome (find nat_cmp n m) P
known-here P keys m n d b h = by (find nat_cmp n m) refl
  where
    by : (r : Option ℕ) → find nat_cmp n m ≡ r → IfSome r P
    by None e = tt
    by (Some v) e = subst (λ o. IfSome o P) (find-here keys m n d b (found-below (length keys) n m v b e) ∙ e) (find-known key_cmp P (key_at keys n) (shown keys m) h)

-- ---- the numbers of the keys that pass a test

any-filter : {X : Type 0} (p q : X → Bool) (xs : List X) → list_any q (filter p xs) ≡ list_any (λ x. p x && q x) xs
any-filter p q [] = refl
any-filter p q (x ∷ xs) = by (p x) (any-filter p q xs)
  where
    by : (b : Bool) → list_any q (filter p xs) ≡ list_any (λ y. p y && q y) xs → list_any q (cond b (x ∷ filter p xs) (filter p xs)) ≡ ((b && q x) || list_any (λ y. p y && q y) xs)
    by true h = ap (λ r. q x || r) h
    by false h = h

-- a key that passes a test with its number
record HasNumber (test : Key × ℕ → Bool) (first : ℕ) (keys : List Key) : Type 0 where
  place : ℕ
  below : place < length keys
  passes : test (get_or keys place ([], []), first + place) ≡ true

any-number : (test : Key × ℕ → Bool) (first : ℕ) (keys : List Key) → list_any test (numbered_from first keys) ≡ true → HasNumber test first keys
any-number test first [] h = absurd (cc h)
any-number test first (k ∷ keys) h = by (test (k, first)) refl h (any-number test (first + 1) keys)
  where
    later : HasNumber test (first + 1) keys → HasNumber test first (k ∷ keys)
    later w =
        let same : (first + 1) + w.place ≡ first + suc w.place = omega arith in
        record { place = suc w.place; below = omega (arith, w.below); passes = subst (λ n. test (get_or keys w.place ([], []), n) ≡ true) same w.passes }

    by : (b : Bool) → test (k, first) ≡ b → (b || list_any test (numbered_from (first + 1) keys)) ≡ true → (list_any test (numbered_from (first + 1) keys) ≡ true → HasNumber test (first + 1) keys) → HasNumber test first (k ∷ keys)
    by true e f rest =
        let same : first ≡ first + 0 = omega arith in
        record { place = zero; below = omega arith; passes = subst (λ n. test (k, n) ≡ true) same e }
    by false e f rest = later (rest f)

module _ (key_test : Key → Bool) (event_test : ℕ → Bool) (keys : List Key) (m : List (ℕ × ℕ)) where
  abbrev passes : Key × ℕ → Bool
  passes e = key_test e.0 && event_test e.1

  abbrev at : Key × ℕ → Bool
  at e = key_test e.0 && passes_at event_test m e.1

  -- the numbers of the keys that pass a test are searched in place of the entries
  pub numbers-searched : AreDistinct keys → AllBelow (length keys) m → list_any (passes_at event_test m) (numbers_where key_test keys) ≡ list_any passes (shown keys m)
  numbers-searched d b =
      list_any-map (passes_at event_test m) (λ (e : Key × ℕ). e.1) (filter (λ e. key_test e.0) (numbered_from 0 keys))
      ∙ any-filter (λ e. key_test e.0) (λ e. passes_at event_test m e.1) (numbered_from 0 keys) ∙ bool_same _ _ there back
    where
      there-at : (n : ℕ) → n < length keys → at (key_at keys n, n) ≡ true → (r : Option ℕ) → find nat_cmp n m ≡ r → list_any passes (shown keys m) ≡ true
      there-at n l h None e =
          let wrong : false ≡ true = (and_parts (key_test (key_at keys n)) false (ap (λ r. key_test (key_at keys n) && is_some_and event_test r) (sym e) ∙ h)).1 in
          absurd (cc wrong)
      there-at n l h (Some v) e =
          found-any passes (shown keys m) (key_at keys n) v (find-here keys m n d b l ∙ e)
          (ap (λ r. key_test (key_at keys n) && is_some_and event_test r) (sym e) ∙ h)

      there : list_any at (numbered_from 0 keys) ≡ true → list_any passes (shown keys m) ≡ true
      there h =
          let w = any-number at 0 keys h in
          let same : 0 + w.place ≡ w.place = omega arith in
          there-at w.place w.below (subst (λ n. at (key_at keys w.place, n) ≡ true) same w.passes) (find nat_cmp w.place m) refl

      back-at : (w : HasFound passes (shown keys m)) (r : Option ℕ) → number_of keys w.key ≡ r → list_any at (numbered_from 0 keys) ≡ true
      back-at w None e =
          let wrong : None ≡ Some w.event = ap (option_and_then (λ n. find nat_cmp n m)) (sym e) ∙ sym (find-shown keys m w.key d b) ∙ w.found in
          absurd (cc wrong)
      back-at w (Some n) e =
          let g : find nat_cmp n m ≡ Some w.event = ap (option_and_then (λ n. find nat_cmp n m)) (sym e) ∙ sym (find-shown keys m w.key d b) ∙ w.found in
          found-any at (numbered_from 0 keys) w.key n e (ap (λ r. key_test w.key && is_some_and event_test r) g ∙ w.passes)

      back : list_any passes (shown keys m) ≡ true → list_any at (numbered_from 0 keys) ≡ true
      back h = (let w = any-found passes (shown keys m) (sorted-shown keys m) h in back-at w (number_of keys w.key) refl)

-- ---- one number after another

pub any-more : (test : ℕ → Bool) (numbers : List ℕ) (i n : ℕ) → i < length numbers → n ≡ get_or numbers i n → test n ≡ true → list_any test (drop i numbers) ≡ true
any-more test numbers i n l is h = ap (list_any test) (drop_more numbers i n l) ∙ or_left (test (get_or numbers i n)) (list_any test (drop (i + 1) numbers)) (ap test (sym is) ∙ h)

pub any-end : (test : ℕ → Bool) (numbers : List ℕ) (i : ℕ) → length numbers ≤ i → list_any test (drop i numbers) ≡ false
any-end test numbers i l = ap (list_any test) (drop_all i numbers l)
