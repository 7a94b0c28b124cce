-- What a search finds among the entries of a state, and what an edit at that place does.
use Rattle.std.proofs.Common.{◌≡◌, ℕ, zero, suc, ◌<◌, ◌≤◌, length, get_or, set, cond, T, [], ◌∷◌, Some, None, Result, Ok, Err, IfOk, IfErr, refl, sym, ap, subst, ◌∙◌, ◌⊎◌, inl, inr, arith}
use Rattle.std.specs.List.{insert}
use Rattle.std.specs.List.Sorted.{IsSearchInRange, IsBinarySearchResult, IsNonDecreasingBy}
use Rattle.std.specs.declared.cmp.Ordering.{Ordering}
use Rattle.std.specs.declared.cmp.Ordering.TheVariants.{Less, Equal, Greater}
use Rattle.std.specs.Ordering.{ordering_index, is_eq}
use Rattle.std.specs.FinMap.Entries.{find, put, by_order, below_all, is_sorted-put}
use Rattle.std.proofs.Math.Nat.{eq-or-lt_of_le}
use Rattle.mx_pdu.specs.StateKeys.{Key}
use Rattle.mx_graph.specs.StateMap.{State, key_cmp}
use Rattle.mx_states.specs.Places.{IsAt, IsGapFor}
use Rattle.mx_states.proofs.KeyLemmas.{key_cmp-total, key_cmp-same, key_cmp-itself, key_cmp-greater, key_cmp-less, Sorted, first, second, less}

-- ---- one entry more at the front

put-less : (k : Key) (p : ℕ) (e : Key × ℕ) (s : State) → key_cmp k e.0 ≡ Less → put key_cmp k p (e ∷ s) ≡ (k, p) ∷ e ∷ s
put-less k p e s h = ap (λ r. by_order r ((k, p) ∷ e ∷ s) ((e.0, p) ∷ s) (e ∷ put key_cmp k p s)) h

pub put-equal : (k : Key) (p : ℕ) (e : Key × ℕ) (s : State) → key_cmp k e.0 ≡ Equal → put key_cmp k p (e ∷ s) ≡ (e.0, p) ∷ s
put-equal k p e s h = ap (λ r. by_order r ((k, p) ∷ e ∷ s) ((e.0, p) ∷ s) (e ∷ put key_cmp k p s)) h

pub put-greater : (k : Key) (p : ℕ) (e : Key × ℕ) (s : State) → key_cmp k e.0 ≡ Greater → put key_cmp k p (e ∷ s) ≡ e ∷ put key_cmp k p s
put-greater k p e s h = ap (λ r. by_order r ((k, p) ∷ e ∷ s) ((e.0, p) ∷ s) (e ∷ put key_cmp k p s)) h

find-less : (k : Key) (e : Key × ℕ) (s : State) → key_cmp k e.0 ≡ Less → find key_cmp k (e ∷ s) ≡ find key_cmp k s
find-less k e s h = ap (λ r. cond (is_eq r) (Some e.1) (find key_cmp k s)) h

pub find-equal : (k : Key) (e : Key × ℕ) (s : State) → key_cmp k e.0 ≡ Equal → find key_cmp k (e ∷ s) ≡ Some e.1
find-equal k e s h = ap (λ r. cond (is_eq r) (Some e.1) (find key_cmp k s)) h

pub find-greater : (k : Key) (e : Key × ℕ) (s : State) → key_cmp k e.0 ≡ Greater → find key_cmp k (e ∷ s) ≡ find key_cmp k s
find-greater k e s h = ap (λ r. cond (is_eq r) (Some e.1) (find key_cmp k s)) h

-- ---- the keys rise

below-at : (k : Key) (s : State) (j : ℕ) (d : Key × ℕ) → T (below_all key_cmp k s) → j < length s → key_cmp k (get_or s j d).0 ≡ Less
below-at k [] j d h l = absurd (omega arith)
below-at k (e ∷ s) zero d h l = less _ (first _ _ h)
below-at k (e ∷ s) (suc j) d h l = below-at k s j d (second _ _ h) (omega arith)

rise-at : (s : State) (i j : ℕ) (d : Key × ℕ) → Sorted s → i < j → j < length s → key_cmp (get_or s i d).0 (get_or s j d).0 ≡ Less
rise-at [] i j d h l m = absurd (omega arith)
rise-at (e ∷ s) i zero d h l m = absurd (omega arith)
rise-at (e ∷ s) zero (suc j) d h l m = below-at e.0 s j d (first _ _ h) (omega arith)
rise-at (e ∷ s) (suc i) (suc j) d h l m = rise-at s i j d (second _ _ h) (omega arith) (omega arith)

-- a key above another compares at least as high with a third
rank-up : (x y k : Key) → key_cmp x y ≡ Less → ordering_index (key_cmp x k) ≤ ordering_index (key_cmp y k)
rank-up x y k l = by (key_cmp y k) refl
  where
    at_most : (r : Ordering) → ordering_index r ≤ 2
    at_most Less = omega arith
    at_most Equal = omega arith
    at_most Greater = omega arith

    by : (r : Ordering) → key_cmp y k ≡ r → ordering_index (key_cmp x k) ≤ ordering_index r
    by Less e = let t = key_cmp-total.trans x y k l e in subst (λ r. ordering_index r ≤ 0) (sym t) (omega arith)
    by Equal e = let same = key_cmp-same y k e in let t : key_cmp x k ≡ Less = subst (λ z. key_cmp x z ≡ Less) same l in subst (λ r. ordering_index r ≤ 1) (sym t) (omega arith)
    by Greater e = at_most (key_cmp x k)

comparisons_rise : (s : State) (k : Key) → Sorted s → IsNonDecreasingBy (λ e. ordering_index (key_cmp e.0 k)) s
comparisons_rise s k h i j d le in_range = by (eq-or-lt_of_le le)
  where
    by : (i ≡ j) ⊎ (i < j) → ordering_index (key_cmp (get_or s i d).0 k) ≤ ordering_index (key_cmp (get_or s j d).0 k)
    by (inl e) = subst (λ n. ordering_index (key_cmp (get_or s i d).0 k) ≤ ordering_index (key_cmp (get_or s n d).0 k)) e (omega arith)
    by (inr l) = rank-up _ _ k (rise-at s i j d h l in_range)

pub searched : (s : State) (k : Key) → Sorted s → (r : Result ℕ ℕ) → IsSearchInRange r (length s) → IsBinarySearchResult (λ e. key_cmp e.0 k) s r → record { found : IfOk r (IsAt k s); absent : IfErr r (IsGapFor k s) }
searched s k h (Ok i) in_range equal = record { found = record { in_range = in_range; has_key = λ d. key_cmp-same _ _ (equal d) }; absent = tt }
searched s k h (Err i) in_range parted =
    let around = parted (comparisons_rise s k h) in
    record { found = tt; absent = record { in_range = in_range; lesser = around.0; greater = around.1 } }

-- ---- at the key

later_key : (e : Key × ℕ) (s : State) (k : Key) (i : ℕ) → Sorted (e ∷ s) → IsAt k (e ∷ s) (suc i) → key_cmp k e.0 ≡ Greater
later_key e s k i h at =
    let below : key_cmp e.0 (get_or s i e).0 ≡ Less = below-at e.0 s i e (first _ _ h) (omega (arith, at.in_range)) in
    key_cmp-greater e.0 k (subst (λ z. key_cmp e.0 z ≡ Less) (at.has_key e) below)

at-tail : (e : Key × ℕ) (s : State) (k : Key) (i : ℕ) → IsAt k (e ∷ s) (suc i) → IsAt k s i
at-tail e s k i at = record { in_range = omega (arith, at.in_range); has_key = λ d. at.has_key d }

at-front : (e : Key × ℕ) (s : State) (k : Key) → IsAt k (e ∷ s) zero → key_cmp k e.0 ≡ Equal
at-front e s k at = subst (λ z. key_cmp z e.0 ≡ Equal) (at.has_key e) (key_cmp-itself e.0)

pub find-at : (s : State) (k : Key) (i : ℕ) (d : Key × ℕ) → Sorted s → IsAt k s i → find key_cmp k s ≡ Some (get_or s i d).1
find-at [] k i d h at = absurd (omega (arith, at.in_range))
find-at (e ∷ s) k zero d h at = find-equal k e s (at-front e s k at)
find-at (e ∷ s) k (suc i) d h at = find-greater k e s (later_key e s k i h at) ∙ find-at s k i d (second _ _ h) (at-tail e s k i at)

pub put-at : (s : State) (k : Key) (p i : ℕ) (d : Key × ℕ) → Sorted s → IsAt k s i → set s i ((get_or s i d).0, p) ≡ put key_cmp k p s
put-at [] k p i d h at = absurd (omega (arith, at.in_range))
put-at (e ∷ s) k p zero d h at = sym (put-equal k p e s (at-front e s k at))
put-at (e ∷ s) k p (suc i) d h at = ap (λ t. e ∷ t) (put-at s k p i d (second _ _ h) (at-tail e s k i at)) ∙ sym (put-greater k p e s (later_key e s k i h at))

-- ---- in the gap

gap-tail : (e : Key × ℕ) (s : State) (k : Key) (i : ℕ) → IsGapFor k (e ∷ s) (suc i) → IsGapFor k s i
gap-tail e s k i gap = record {
  in_range = omega (arith, gap.in_range);
  lesser = λ j d l m. gap.lesser (suc j) d (omega arith) (omega arith);
  greater = λ j d l m. gap.greater (suc j) d (omega arith) (omega arith);
}

gap-rest : (e : Key × ℕ) (s : State) (k : Key) → IsGapFor k (e ∷ s) zero → IsGapFor k s zero
gap-rest e s k gap = record {
  in_range = omega arith;
  lesser = λ j d l m. absurd (omega arith);
  greater = λ j d l m. gap.greater (suc j) d (omega arith) (omega arith);
}

gap-before : (e : Key × ℕ) (s : State) (k : Key) → IsGapFor k (e ∷ s) zero → key_cmp k e.0 ≡ Less
gap-before e s k gap = key_cmp-less e.0 k (gap.greater zero e (omega arith) (omega arith))

gap-after : (e : Key × ℕ) (s : State) (k : Key) (i : ℕ) → IsGapFor k (e ∷ s) (suc i) → key_cmp k e.0 ≡ Greater
gap-after e s k i gap = key_cmp-greater e.0 k (gap.lesser zero e (omega arith) (omega arith))

pub find-gap : (s : State) (k : Key) (i : ℕ) → IsGapFor k s i → find key_cmp k s ≡ None
find-gap [] k i gap = refl
find-gap (e ∷ s) k zero gap = find-less k e s (gap-before e s k gap) ∙ find-gap s k zero (gap-rest e s k gap)
find-gap (e ∷ s) k (suc i) gap = find-greater k e s (gap-after e s k i gap) ∙ find-gap s k i (gap-tail e s k i gap)

pub put-gap : (s : State) (k : Key) (p i : ℕ) → IsGapFor k s i → insert s i (k, p) ≡ put key_cmp k p s
put-gap [] k p zero gap = refl
put-gap [] k p (suc i) gap = absurd (omega (arith, gap.in_range))
put-gap (e ∷ s) k p zero gap = sym (put-less k p e s (gap-before e s k gap))
put-gap (e ∷ s) k p (suc i) gap = ap (λ t. e ∷ t) (put-gap s k p i (gap-tail e s k i gap)) ∙ sym (put-greater k p e s (gap-after e s k i gap))

pub sorted-put : (k : Key) (p : ℕ) (s : State) → Sorted s → Sorted (put key_cmp k p s)
sorted-put k p s h = is_sorted-put key_cmp key_cmp-total k p s h
