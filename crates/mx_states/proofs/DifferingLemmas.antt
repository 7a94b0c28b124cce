-- The keys at which states differ.
use Rattle.std.proofs.Common.{◌≡◌, ◌↔◌, ℕ, zero, suc, ◌==◌, ◌<◌, Bool, true, false, cond, not, ◌&&◌, ◌||◌, T, List, [], ◌∷◌, ◌++◌, length, map, take, Option, is_some, Some, None, refl, sym, ap, subst, ◌∙◌, arith, eq-eqb, eqb-true, get_or}
use Rattle.std.proofs.lemmas.List.Elements.{All-append}
use Rattle.std.specs.List.{All}
use Rattle.std.specs.Ordering.{is_eq}
use Rattle.std.specs.FinMap.Entries.{find, put, below_all}
use Rattle.mx_redact.specs.Fields.{is_some_and}
use Rattle.mx_pdu.specs.StateKeys.{Key}
use Rattle.mx_graph.specs.StateMap.{State, key_cmp, entry}
use Rattle.mx_states.specs.Entries.{has_missed, has_entry}
use Rattle.mx_states.specs.Numbered.{AllAlike}
use Rattle.mx_states.proofs.KeyLemmas.{Sorted, first, second, less}
use Rattle.mx_states.proofs.EntryLemmas.{entry-put, equal-keys}

-- ---- to gather entries that a state misses

put-is : (b : Bool) (v : ℕ) (o : Option ℕ) (m : Bool) → (is_some (cond b (Some v) o) || m) ≡ (is_some o || ((b && true) || m))
put-is true v None m = refl
put-is true v (Some x) m = refl
put-is false v o m = refl

pub missed-put : (found other items rest : State) (e : Key × ℕ) → items ≡ e ∷ rest → has_entry e other ≡ false → (key : Key)
    → (is_some (entry (put key_cmp e.0 e.1 found) key) || has_missed other rest key) ≡ (is_some (entry found key) || has_missed other items key)
missed-put found other items rest e d h key =
    ap (λ o. is_some o || has_missed other rest key) (entry-put key e.0 e.1 found)
    ∙ put-is (is_eq (key_cmp key e.0)) e.1 (entry found key) (has_missed other rest key)
    ∙ ap (λ b. is_some (entry found key) || ((is_eq (key_cmp key e.0) && not b) || has_missed other rest key)) (sym h)
    ∙ ap (λ s. is_some (entry found key) || has_missed other s key) (sym d)

kept-is : (b m : Bool) → m ≡ ((b && false) || m)
kept-is true m = refl
kept-is false m = refl

pub missed-kept : (found other items rest : State) (e : Key × ℕ) → items ≡ e ∷ rest → has_entry e other ≡ true → (key : Key)
    → (is_some (entry found key) || has_missed other rest key) ≡ (is_some (entry found key) || has_missed other items key)
missed-kept found other items rest e d h key =
    ap (λ m. is_some (entry found key) || m) (kept-is (is_eq (key_cmp key e.0)) (has_missed other rest key))
    ∙ ap (λ b. is_some (entry found key) || ((is_eq (key_cmp key e.0) && not b) || has_missed other rest key)) (sym h)
    ∙ ap (λ s. is_some (entry found key) || has_missed other s key) (sym d)

-- ---- two states at a key

pub has-found : (o : Option ℕ) (p : ℕ) → is_some_and (λ q. q == p) o ≡ true → o ≡ Some p
has-found None p e = absurd (cc e)
has-found (Some q) p e = ap Some (eqb-true q p e)

-- where nothing is missed, what one state has there the other has too
none-missed : (t s : State) (key : Key) → has_missed t s key ≡ false → (p : ℕ) → entry s key ≡ Some p → entry t key ≡ Some p
none-missed t [] key h p e = absurd (cc e)
none-missed t (f ∷ s) key h p e = by (is_eq (key_cmp key f.0)) refl h e (none-missed t s key)
  where
    by : (b : Bool) → is_eq (key_cmp key f.0) ≡ b → ((b && not (has_entry f t)) || has_missed t s key) ≡ false → cond b (Some f.1) (find key_cmp key s) ≡ Some p
        → (has_missed t s key ≡ false → (p : ℕ) → entry s key ≡ Some p → entry t key ≡ Some p) → entry t key ≡ Some p
    by true c g k later =
        ap (entry t) (equal-keys key f.0 c) ∙ has-found (entry t f.0) f.1 (here (has_entry f t) g) ∙ k
      where
        here : (a : Bool) → (not a || has_missed t s key) ≡ false → a ≡ true
        here true g = refl
        here false g = absurd (cc g)
    by false c g k later = later g p k

below-missed : (t s : State) (key : Key) → T (below_all key_cmp key s) → has_missed t s key ≡ false
below-missed t [] key h = refl
below-missed t (f ∷ s) key h = ap (λ r. (is_eq r && not (has_entry f t)) || has_missed t s key) (less _ (first _ _ h)) ∙ below-missed t s key (second _ _ h)

-- where both have the same there, nothing is missed
same-missed : (t s : State) (key : Key) → Sorted s → entry t key ≡ entry s key → has_missed t s key ≡ false
same-missed t [] key h e = refl
same-missed t (f ∷ s) key h e = by (is_eq (key_cmp key f.0)) refl e (same-missed t s key (second _ _ h))
  where
    by : (b : Bool) → is_eq (key_cmp key f.0) ≡ b → entry t key ≡ cond b (Some f.1) (find key_cmp key s) → (entry t key ≡ entry s key → has_missed t s key ≡ false)
        → ((b && not (has_entry f t)) || has_missed t s key) ≡ false
    by true c g later =
        let k : key ≡ f.0 = equal-keys key f.0 c in
        let has : has_entry f t ≡ true = ap (is_some_and (λ q. q == f.1)) (ap (entry t) (sym k) ∙ g) ∙ eq-eqb f.1 f.1 refl in
        ap (λ b. not b || has_missed t s key) has ∙ subst (λ z. has_missed t s z ≡ false) (sym k) (below-missed t s f.0 (first _ _ h))
    by false c g later = later g

abbrev pub differ_at : State → State → Key → Bool
differ_at s t key = has_missed t s key || has_missed s t key

or-none : (a b : Bool) → (a || b) ≡ false → (a ≡ false) × (b ≡ false)
or-none true b e = absurd (cc e)
or-none false b e = (refl, e)

or-of-none : (a b : Bool) → a ≡ false → b ≡ false → (a || b) ≡ false
or-of-none true b e f = e
or-of-none false b e f = f

pub alike-to : (s t : State) (key : Key) → differ_at s t key ≡ false → entry t key ≡ entry s key
alike-to s t key h = by (entry s key) refl (entry t key) refl
  where
    n : (has_missed t s key ≡ false) × (has_missed s t key ≡ false)
    n = or-none (has_missed t s key) (has_missed s t key) h

    by : (o : Option ℕ) → entry s key ≡ o → (r : Option ℕ) → entry t key ≡ r → entry t key ≡ entry s key
    by (Some p) e r f = none-missed t s key n.0 p e ∙ sym e
    by None e (Some p) f = f ∙ sym (none-missed s t key n.1 p f)
    by None e None f = f ∙ sym e

pub alike-from : (s t : State) (key : Key) → Sorted s → Sorted t → entry t key ≡ entry s key → differ_at s t key ≡ false
alike-from s t key g h e = or-of-none (has_missed t s key) (has_missed s t key) (same-missed t s key g e) (same-missed s t key h (sym e))

-- ---- several states

module _ {A : Type 0} (P : A → Type 0) where
  pub all-before : (xs : List A) (y : A) → All P (xs ++ y ∷ []) → All P xs
  all-before [] y h k d l = absurd (omega arith)
  all-before (x ∷ xs) y h zero d l = h zero d (omega arith)
  all-before (x ∷ xs) y h (suc k) d l = all-before xs y (λ j d m. h (suc j) d (omega arith)) k d (omega arith)

  pub all-last : (xs : List A) (y : A) → All P (xs ++ y ∷ []) → P y
  all-last [] y h = h zero y (omega arith)
  all-last (x ∷ xs) y h = all-last xs y (λ j d m. h (suc j) d (omega arith))

  pub all-only : (y : A) → P y → All P (y ∷ [])
  all-only y p zero d l = p
  all-only y p (suc k) d l = absurd (omega arith)

none-some : (o : Option ℕ) → is_some o ≡ false → o ≡ None
none-some None e = refl
none-some (Some x) e = absurd (cc e)

-- one state more
pub differing-step : (key : Key) (s t : State) (before after : State) (xs ys : List State) → Sorted s → Sorted t → ys ≡ xs ++ t ∷ []
    → is_some (entry after key) ≡ ((is_some (entry before key) || has_missed t s key) || has_missed s t key)
    → (entry before key ≡ None) ↔ All (λ t. entry t key ≡ entry s key) xs
    → (entry after key ≡ None) ↔ All (λ t. entry t key ≡ entry s key) ys
differing-step key s t before after xs ys g h d is so_far = (to, from)
  where
    P : State → Type 0
    P t = entry t key ≡ entry s key

    split : (a b c : Bool) → ((a || b) || c) ≡ false → (a ≡ false) × ((b || c) ≡ false)
    split true b c e = absurd (cc e)
    split false b c e = (refl, e)

    join : (a b c : Bool) → a ≡ false → (b || c) ≡ false → ((a || b) || c) ≡ false
    join true b c e f = absurd (cc e)
    join false b c e f = f

    to : entry after key ≡ None → All (λ t. entry t key ≡ entry s key) ys
    to e =
        let r = split (is_some (entry before key)) (has_missed t s key) (has_missed s t key) (sym is ∙ ap is_some e) in
        subst (All (λ t. entry t key ≡ entry s key)) (sym d)
        (All-append (λ t. entry t key ≡ entry s key) xs (t ∷ []) (so_far.0 (none-some (entry before key) r.0)) (all-only (λ t. entry t key ≡ entry s key) t (alike-to s t key r.1)))

    from : All (λ t. entry t key ≡ entry s key) ys → entry after key ≡ None
    from a =
        let b = subst (All (λ t. entry t key ≡ entry s key)) d a in
        none-some (entry after key)
        (is ∙ join (is_some (entry before key)) (has_missed t s key) (has_missed s t key)
        (ap is_some (so_far.1 (all-before (λ t. entry t key ≡ entry s key) xs t b)))
        (alike-from s t key g h (all-last (λ t. entry t key ≡ entry s key) xs t b)))

-- the number after the first ones is one of them
pub number-at : (n : ℕ) (numbers others : List ℕ) (first : ℕ) → numbers ≡ first ∷ others → All (λ x. x < n) numbers → (i x : ℕ) → i < length others → x ≡ get_or others i x → x < n
number-at n numbers others first d h i x l e = subst (λ y. y < n) (sym e) (subst (All (λ x. x < n)) d h (suc i) x (omega arith))

pub differing-done : (key : Key) (at : ℕ → State) (numbers others : List ℕ) (first i : ℕ) (found so_far : State) → numbers ≡ first ∷ others → take i others ≡ others → found ≡ so_far
    → (entry so_far key ≡ None) ↔ All (λ t. entry t key ≡ entry (at first) key) (map at (take i others)) → (entry found key ≡ None) ↔ AllAlike key (map at numbers)
differing-done key at numbers others first i found so_far d e f h =
    subst (λ ns. (entry found key ≡ None) ↔ AllAlike key (map at ns)) (sym d)
    (subst (λ ts. (entry found key ≡ None) ↔ All (λ t. entry t key ≡ entry (at first) key) (map at ts)) e
    (subst (λ s. (entry s key ≡ None) ↔ All (λ t. entry t key ≡ entry (at first) key) (map at (take i others))) (sym f) h))

pub differing-none : (key : Key) (at : ℕ → State) (numbers : List ℕ) (found : State) → numbers ≡ [] → found ≡ [] → (entry found key ≡ None) ↔ AllAlike key (map at numbers)
differing-none key at numbers found d f = subst (λ ns. (entry found key ≡ None) ↔ AllAlike key (map at ns)) (sym d) (λ e. tt, λ a. ap (λ s. entry s key) f)
