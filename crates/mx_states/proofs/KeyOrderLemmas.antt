-- The entries of a state in the order of their keys, from the numbers of all keys in that order.
use Rattle.std.proofs.Common.{◌≡◌, ℕ, T, false, cond, length, List, [], ◌∷◌, Some, None, refl, sym, ap, subst, ◌∙◌}
use Rattle.std.specs.Prelude.{Option, filter_map}
use Rattle.std.specs.declared.cmp.Ordering.{Ordering}
use Rattle.std.specs.declared.cmp.Ordering.TheVariants.{Less, Equal, Greater}
use Rattle.std.specs.List.{cons_option}
use Rattle.std.specs.Option.{option_and_then}
use Rattle.std.specs.Ordering.{nat_cmp, is_eq}
use Rattle.std.specs.FinMap.Entries.{find, below_all}
use Rattle.mx_pdu.specs.StateKeys.{Key}
use Rattle.mx_graph.specs.StateMap.{State, key_cmp, events_of}
use Rattle.mx_states.specs.KeyNumbers.{key_at, AreDistinct, shown, AllBelow, AreInOrder, in_order}
use Rattle.mx_states.proofs.KeyLemmas.{Sorted, both, first, second, less, is_less, key_cmp-same}
use Rattle.mx_states.proofs.ShownLemmas.{same_states, sorted-shown, find-shown}

-- a state with an entry before its others, where there is one
abbrev with_first : Key → Option ℕ → State → State
with_first k None s = s
with_first k (Some v) s = (k, v) ∷ s

-- what stands at keys with these numbers
abbrev listed : List Key → List (ℕ × ℕ) → List ℕ → State
listed keys m [] = []
listed keys m (n ∷ numbers) = with_first (key_at keys n) (find nat_cmp n m) (listed keys m numbers)

-- ---- they are in the order of the keys

below-first : (j k : Key) (o : Option ℕ) (s : State) → key_cmp j k ≡ Less → T (below_all key_cmp j s) → T (below_all key_cmp j (with_first k o s))
below-first j k None s h b = b
below-first j k (Some v) s h b = both _ _ (is_less _ h) b

below-listed : (keys : List Key) (m : List (ℕ × ℕ)) (j : Key) (numbers : List ℕ) → T (below_all key_cmp j (in_order keys numbers)) → T (below_all key_cmp j (listed keys m numbers))
below-listed keys m j [] h = tt
below-listed keys m j (n ∷ numbers) h = below-first j (key_at keys n) (find nat_cmp n m) (listed keys m numbers) (less _ (first _ _ h)) (below-listed keys m j numbers (second _ _ h))

sorted-first : (k : Key) (o : Option ℕ) (s : State) → T (below_all key_cmp k s) → Sorted s → Sorted (with_first k o s)
sorted-first k None s b h = h
sorted-first k (Some v) s b h = both _ _ b h

sorted-listed : (keys : List Key) (m : List (ℕ × ℕ)) (numbers : List ℕ) → Sorted (in_order keys numbers) → Sorted (listed keys m numbers)
sorted-listed keys m [] h = tt
sorted-listed keys m (n ∷ numbers) h =
    sorted-first (key_at keys n) (find nat_cmp n m) (listed keys m numbers) (below-listed keys m (key_at keys n) numbers (first _ _ h)) (sorted-listed keys m numbers (second _ _ h))

-- ---- what stands at a key

find-below : (k : Key) (s : State) → T (below_all key_cmp k s) → find key_cmp k s ≡ None
find-below k [] h = refl
find-below k (e ∷ s) h = ap (λ r. cond (is_eq r) (Some e.1) (find key_cmp k s)) (less _ (first _ _ h)) ∙ find-below k s (second _ _ h)

find-equal : (q k : Key) (o : Option ℕ) (s : State) → key_cmp q k ≡ Equal → find key_cmp q s ≡ None → find key_cmp q (with_first k o s) ≡ o
find-equal q k None s e h = h
find-equal q k (Some v) s e h = ap (λ r. cond (is_eq r) (Some v) (find key_cmp q s)) e

find-unequal : (q k : Key) (o : Option ℕ) (s : State) (r : Ordering) → key_cmp q k ≡ r → is_eq r ≡ false → find key_cmp q (with_first k o s) ≡ find key_cmp q s
find-unequal q k None s r e f = refl
find-unequal q k (Some v) s r e f = ap (λ x. cond (is_eq x) (Some v) (find key_cmp q s)) e ∙ ap (λ b. cond b (Some v) (find key_cmp q s)) f

find-listed : (keys : List Key) (m : List (ℕ × ℕ)) (numbers : List ℕ) (q : Key) → Sorted (in_order keys numbers)
    → find key_cmp q (listed keys m numbers) ≡ option_and_then (λ n. find nat_cmp n m) (find key_cmp q (in_order keys numbers))
find-listed keys m [] q h = refl
find-listed keys m (n ∷ numbers) q h = by (key_cmp q (key_at keys n)) refl (find-listed keys m numbers q (second _ _ h))
  where
    rest : State
    rest = listed keys m numbers

    here : Option ℕ
    here = find key_cmp q (in_order keys numbers)

    Later : Type 0
    Later = find key_cmp q rest ≡ option_and_then (λ j. find nat_cmp j m) here

    unequal : (r : Ordering) → key_cmp q (key_at keys n) ≡ r → is_eq r ≡ false → Later
        → find key_cmp q (with_first (key_at keys n) (find nat_cmp n m) rest) ≡ option_and_then (λ j. find nat_cmp j m) (cond (is_eq (key_cmp q (key_at keys n))) (Some n) here)
    unequal r e f later =
        find-unequal q (key_at keys n) (find nat_cmp n m) rest r e f ∙ later
        ∙ sym (ap (λ x. option_and_then (λ j. find nat_cmp j m) (cond (is_eq x) (Some n) here)) e ∙ ap (λ b. option_and_then (λ j. find nat_cmp j m) (cond b (Some n) here)) f)

    by : (r : Ordering) → key_cmp q (key_at keys n) ≡ r → Later
        → find key_cmp q (with_first (key_at keys n) (find nat_cmp n m) rest) ≡ option_and_then (λ j. find nat_cmp j m) (cond (is_eq (key_cmp q (key_at keys n))) (Some n) here)
    by Less e later = unequal Less e refl later
    by Greater e later = unequal Greater e refl later
    by Equal e later =
        let same : q ≡ key_at keys n = key_cmp-same q (key_at keys n) e in
        let none : find key_cmp q rest ≡ None = find-below q rest (subst (λ z. T (below_all key_cmp z rest)) (sym same) (below-listed keys m (key_at keys n) numbers (first _ _ h))) in
        find-equal q (key_at keys n) (find nat_cmp n m) rest e none
        ∙ sym (ap (λ x. option_and_then (λ j. find nat_cmp j m) (cond (is_eq x) (Some n) here)) e)

listed-is : (keys : List Key) (m : List (ℕ × ℕ)) (numbers : List ℕ) → AreDistinct keys → AllBelow (length keys) m → AreInOrder keys numbers → listed keys m numbers ≡ shown keys m
listed-is keys m numbers h b o =
    same_states _ _ (sorted-listed keys m numbers o.sorted) (sorted-shown keys m)
    (λ q. find-listed keys m numbers q o.sorted ∙ ap (option_and_then (λ n. find nat_cmp n m)) (o.found q) ∙ sym (find-shown keys m q h b))

-- ---- their events

events-first : (k : Key) (o : Option ℕ) (s : State) → events_of (with_first k o s) ≡ cons_option o (events_of s)
events-first k None s = refl
events-first k (Some v) s = refl

events-listed : (keys : List Key) (m : List (ℕ × ℕ)) (numbers : List ℕ) → events_of (listed keys m numbers) ≡ filter_map (λ n. find nat_cmp n m) numbers
events-listed keys m [] = refl
events-listed keys m (n ∷ numbers) = events-first (key_at keys n) (find nat_cmp n m) (listed keys m numbers) ∙ ap (cons_option (find nat_cmp n m)) (events-listed keys m numbers)

pub events-in_order : (keys : List Key) (m : List (ℕ × ℕ)) (numbers : List ℕ) → AreDistinct keys → AllBelow (length keys) m → AreInOrder keys numbers
    → filter_map (λ n. find nat_cmp n m) numbers ≡ events_of (shown keys m)
events-in_order keys m numbers h b o = sym (events-listed keys m numbers) ∙ ap events_of (listed-is keys m numbers h b o)
