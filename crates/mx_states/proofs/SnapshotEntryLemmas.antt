-- What a search finds among entries in the order of their keys, and what an edit at that place does.
use Rattle.std.proofs.Common.{◌≡◌, ℕ, zero, suc, ◌<◌, ◌≤◌, length, get_or, set, cond, Bool, true, false, ◌&&◌, not, T, List, [], ◌∷◌, Some, None, Result, Ok, Err, IfOk, IfErr, refl, sym, ap, subst, ◌∙◌, ◌⊎◌, inl, inr, arith}
use Rattle.std.specs.Prelude.{Option, unwrap_or}
use Rattle.std.specs.List.{insert, remove}
use Rattle.std.specs.List.Sorted.{IsSearchInRange, IsBinarySearchResult, IsNonDecreasingBy}
use Rattle.std.specs.declared.cmp.Ordering.{Ordering}
use Rattle.std.specs.declared.cmp.Ordering.TheVariants.{Less, Equal, Greater}
use Rattle.std.specs.Ordering.{ordering_index, ordering_reverse, is_eq, is_lt, eq_by_cmp, nat_cmp}
use Rattle.std.specs.Cmp.{nat_cmp_total, tied_itself, eq_by_cmp_equiv}
use Rattle.std.specs.FinMap.{nat_cmp-IsAntisymmetric}
use Rattle.std.specs.FinMap.Entries.{find, put, by_order, below_all, is_sorted, is_sorted-put, is_sorted-where_key, find-put, find-where_key}
use Rattle.std.proofs.Math.Nat.{eq-or-lt_of_le}
use Rattle.mx_states.specs.SnapshotEntries.{change, changed, IsAt, IsGapFor}

abbrev pub Sorted : List (ℕ × ℕ) → Type 0
Sorted s = T (is_sorted nat_cmp s)

pub first : (a b : Bool) → T (a && b) → T a
first true b h = tt
first false b h = h

pub second : (a b : Bool) → T (a && b) → T b
second true b h = h
second false b h = absurd h

less : (o : Ordering) → T (is_lt o) → o ≡ Less
less Less p = refl
less Equal p = absurd p
less Greater p = absurd p

same_key : (j k : ℕ) → nat_cmp j k ≡ Equal → j ≡ k
same_key j k e = nat_cmp-IsAntisymmetric j k e

key_itself : (k : ℕ) → nat_cmp k k ≡ Equal
key_itself k = tied_itself nat_cmp_total k

key_greater : (j k : ℕ) → nat_cmp j k ≡ Less → nat_cmp k j ≡ Greater
key_greater j k e = nat_cmp_total.antisymm k j ∙ ap ordering_reverse e

key_less : (j k : ℕ) → nat_cmp j k ≡ Greater → nat_cmp k j ≡ Less
key_less j k e = nat_cmp_total.antisymm k j ∙ ap ordering_reverse e

-- ---- one entry more at the front

put-less : (k : ℕ) (p : ℕ) (e : ℕ × ℕ) (s : List (ℕ × ℕ)) → nat_cmp k e.0 ≡ Less → put nat_cmp k p (e ∷ s) ≡ (k, p) ∷ e ∷ s
put-less k p e s h = ap (λ r. by_order r ((k, p) ∷ e ∷ s) ((e.0, p) ∷ s) (e ∷ put nat_cmp k p s)) h

pub put-equal : (k : ℕ) (p : ℕ) (e : ℕ × ℕ) (s : List (ℕ × ℕ)) → nat_cmp k e.0 ≡ Equal → put nat_cmp k p (e ∷ s) ≡ (e.0, p) ∷ s
put-equal k p e s h = ap (λ r. by_order r ((k, p) ∷ e ∷ s) ((e.0, p) ∷ s) (e ∷ put nat_cmp k p s)) h

pub put-greater : (k : ℕ) (p : ℕ) (e : ℕ × ℕ) (s : List (ℕ × ℕ)) → nat_cmp k e.0 ≡ Greater → put nat_cmp k p (e ∷ s) ≡ e ∷ put nat_cmp k p s
put-greater k p e s h = ap (λ r. by_order r ((k, p) ∷ e ∷ s) ((e.0, p) ∷ s) (e ∷ put nat_cmp k p s)) h

find-less : (k : ℕ) (e : ℕ × ℕ) (s : List (ℕ × ℕ)) → nat_cmp k e.0 ≡ Less → find nat_cmp k (e ∷ s) ≡ find nat_cmp k s
find-less k e s h = ap (λ r. cond (is_eq r) (Some e.1) (find nat_cmp k s)) h

pub find-equal : (k : ℕ) (e : ℕ × ℕ) (s : List (ℕ × ℕ)) → nat_cmp k e.0 ≡ Equal → find nat_cmp k (e ∷ s) ≡ Some e.1
find-equal k e s h = ap (λ r. cond (is_eq r) (Some e.1) (find nat_cmp k s)) h

pub find-greater : (k : ℕ) (e : ℕ × ℕ) (s : List (ℕ × ℕ)) → nat_cmp k e.0 ≡ Greater → find nat_cmp k (e ∷ s) ≡ find nat_cmp k s
find-greater k e s h = ap (λ r. cond (is_eq r) (Some e.1) (find nat_cmp k s)) h

-- ---- the keys rise

below-at : (k : ℕ) (s : List (ℕ × ℕ)) (j : ℕ) (d : ℕ × ℕ) → T (below_all nat_cmp k s) → j < length s → nat_cmp k (get_or s j d).0 ≡ Less
below-at k [] j d h l = absurd (omega arith)
below-at k (e ∷ s) zero d h l = less _ (first _ _ h)
below-at k (e ∷ s) (suc j) d h l = below-at k s j d (second _ _ h) (omega arith)

rise-at : (s : List (ℕ × ℕ)) (i j : ℕ) (d : ℕ × ℕ) → Sorted s → i < j → j < length s → nat_cmp (get_or s i d).0 (get_or s j d).0 ≡ Less
rise-at [] i j d h l m = absurd (omega arith)
rise-at (e ∷ s) i zero d h l m = absurd (omega arith)
rise-at (e ∷ s) zero (suc j) d h l m = below-at e.0 s j d (first _ _ h) (omega arith)
rise-at (e ∷ s) (suc i) (suc j) d h l m = rise-at s i j d (second _ _ h) (omega arith) (omega arith)

-- a key above another compares at least as high with a third
rank-up : (x y k : ℕ) → nat_cmp x y ≡ Less → ordering_index (nat_cmp x k) ≤ ordering_index (nat_cmp y k)
rank-up x y k l = by (nat_cmp y k) refl
  where
    at_most : (r : Ordering) → ordering_index r ≤ 2
    at_most Less = omega arith
    at_most Equal = omega arith
    at_most Greater = omega arith

    by : (r : Ordering) → nat_cmp y k ≡ r → ordering_index (nat_cmp x k) ≤ ordering_index r
    by Less e = let t = nat_cmp_total.trans x y k l e in subst (λ r. ordering_index r ≤ 0) (sym t) (omega arith)
    by Equal e = let same = same_key y k e in let t : nat_cmp x k ≡ Less = subst (λ z. nat_cmp x z ≡ Less) same l in subst (λ r. ordering_index r ≤ 1) (sym t) (omega arith)
    by Greater e = at_most (nat_cmp x k)

comparisons_rise : (s : List (ℕ × ℕ)) (k : ℕ) → Sorted s → IsNonDecreasingBy (λ e. ordering_index (nat_cmp e.0 k)) s
comparisons_rise s k h i j d le in_range = by (eq-or-lt_of_le le)
  where
    by : (i ≡ j) ⊎ (i < j) → ordering_index (nat_cmp (get_or s i d).0 k) ≤ ordering_index (nat_cmp (get_or s j d).0 k)
    by (inl e) = subst (λ n. ordering_index (nat_cmp (get_or s i d).0 k) ≤ ordering_index (nat_cmp (get_or s n d).0 k)) e (omega arith)
    by (inr l) = rank-up _ _ k (rise-at s i j d h l in_range)

pub searched : (s : List (ℕ × ℕ)) (k : ℕ) → Sorted s → (r : Result ℕ ℕ) → IsSearchInRange r (length s) → IsBinarySearchResult (λ e. nat_cmp e.0 k) s r → record { found : IfOk r (IsAt k s); absent : IfErr r (IsGapFor k s) }
searched s k h (Ok i) in_range equal = record { found = record { in_range = in_range; has_key = λ d. same_key _ _ (equal d) }; absent = tt }
searched s k h (Err i) in_range parted =
    let around = parted (comparisons_rise s k h) in
    record { found = tt; absent = record { in_range = in_range; lesser = around.0; greater = around.1 } }

-- ---- at the key

later_key : (e : ℕ × ℕ) (s : List (ℕ × ℕ)) (k : ℕ) (i : ℕ) → Sorted (e ∷ s) → IsAt k (e ∷ s) (suc i) → nat_cmp k e.0 ≡ Greater
later_key e s k i h at =
    let below : nat_cmp e.0 (get_or s i e).0 ≡ Less = below-at e.0 s i e (first _ _ h) (omega (arith, at.in_range)) in
    key_greater e.0 k (subst (λ z. nat_cmp e.0 z ≡ Less) (at.has_key e) below)

at-tail : (e : ℕ × ℕ) (s : List (ℕ × ℕ)) (k : ℕ) (i : ℕ) → IsAt k (e ∷ s) (suc i) → IsAt k s i
at-tail e s k i at = record { in_range = omega (arith, at.in_range); has_key = λ d. at.has_key d }

at-front : (e : ℕ × ℕ) (s : List (ℕ × ℕ)) (k : ℕ) → IsAt k (e ∷ s) zero → nat_cmp k e.0 ≡ Equal
at-front e s k at = subst (λ z. nat_cmp z e.0 ≡ Equal) (at.has_key e) (key_itself e.0)

pub find-at : (s : List (ℕ × ℕ)) (k : ℕ) (i : ℕ) (d : ℕ × ℕ) → Sorted s → IsAt k s i → find nat_cmp k s ≡ Some (get_or s i d).1
find-at [] k i d h at = absurd (omega (arith, at.in_range))
find-at (e ∷ s) k zero d h at = find-equal k e s (at-front e s k at)
find-at (e ∷ s) k (suc i) d h at = find-greater k e s (later_key e s k i h at) ∙ find-at s k i d (second _ _ h) (at-tail e s k i at)

pub put-at : (s : List (ℕ × ℕ)) (k : ℕ) (p i : ℕ) (d : ℕ × ℕ) → Sorted s → IsAt k s i → set s i ((get_or s i d).0, p) ≡ put nat_cmp k p s
put-at [] k p i d h at = absurd (omega (arith, at.in_range))
put-at (e ∷ s) k p zero d h at = sym (put-equal k p e s (at-front e s k at))
put-at (e ∷ s) k p (suc i) d h at = ap (λ t. e ∷ t) (put-at s k p i d (second _ _ h) (at-tail e s k i at)) ∙ sym (put-greater k p e s (later_key e s k i h at))

-- ---- in the gap

gap-tail : (e : ℕ × ℕ) (s : List (ℕ × ℕ)) (k : ℕ) (i : ℕ) → IsGapFor k (e ∷ s) (suc i) → IsGapFor k s i
gap-tail e s k i gap = record {
  in_range = omega (arith, gap.in_range);
  lesser = λ j d l m. gap.lesser (suc j) d (omega arith) (omega arith);
  greater = λ j d l m. gap.greater (suc j) d (omega arith) (omega arith);
}

gap-rest : (e : ℕ × ℕ) (s : List (ℕ × ℕ)) (k : ℕ) → IsGapFor k (e ∷ s) zero → IsGapFor k s zero
gap-rest e s k gap = record {
  in_range = omega arith;
  lesser = λ j d l m. absurd (omega arith);
  greater = λ j d l m. gap.greater (suc j) d (omega arith) (omega arith);
}

gap-before : (e : ℕ × ℕ) (s : List (ℕ × ℕ)) (k : ℕ) → IsGapFor k (e ∷ s) zero → nat_cmp k e.0 ≡ Less
gap-before e s k gap = key_less e.0 k (gap.greater zero e (omega arith) (omega arith))

gap-after : (e : ℕ × ℕ) (s : List (ℕ × ℕ)) (k : ℕ) (i : ℕ) → IsGapFor k (e ∷ s) (suc i) → nat_cmp k e.0 ≡ Greater
gap-after e s k i gap = key_greater e.0 k (gap.lesser zero e (omega arith) (omega arith))

pub find-gap : (s : List (ℕ × ℕ)) (k : ℕ) (i : ℕ) → IsGapFor k s i → find nat_cmp k s ≡ None
find-gap [] k i gap = refl
find-gap (e ∷ s) k zero gap = find-less k e s (gap-before e s k gap) ∙ find-gap s k zero (gap-rest e s k gap)
find-gap (e ∷ s) k (suc i) gap = find-greater k e s (gap-after e s k i gap) ∙ find-gap s k i (gap-tail e s k i gap)

pub put-gap : (s : List (ℕ × ℕ)) (k : ℕ) (p i : ℕ) → IsGapFor k s i → insert s i (k, p) ≡ put nat_cmp k p s
put-gap [] k p zero gap = refl
put-gap [] k p (suc i) gap = absurd (omega (arith, gap.in_range))
put-gap (e ∷ s) k p zero gap = sym (put-less k p e s (gap-before e s k gap))
put-gap (e ∷ s) k p (suc i) gap = ap (λ t. e ∷ t) (put-gap s k p i (gap-tail e s k i gap)) ∙ sym (put-greater k p e s (gap-after e s k i gap))

pub sorted-put : (k : ℕ) (p : ℕ) (s : List (ℕ × ℕ)) → Sorted s → Sorted (put nat_cmp k p s)
sorted-put k p s h = is_sorted-put nat_cmp nat_cmp_total k p s h

-- ---- without a key

without-kept : (k : ℕ) (e : ℕ × ℕ) (s : List (ℕ × ℕ)) (o : Ordering) → is_eq o ≡ false → nat_cmp k e.0 ≡ o → change k None (e ∷ s) ≡ e ∷ change k None s
without-kept k e s o f h = ap (λ b. cond (not b) (e ∷ change k None s) (change k None s)) (ap is_eq h ∙ f)

without-taken : (k : ℕ) (e : ℕ × ℕ) (s : List (ℕ × ℕ)) → nat_cmp k e.0 ≡ Equal → change k None (e ∷ s) ≡ change k None s
without-taken k e s h = ap (λ r. cond (not (is_eq r)) (e ∷ change k None s) (change k None s)) h

without-above : (k : ℕ) (s : List (ℕ × ℕ)) → T (below_all nat_cmp k s) → change k None s ≡ s
without-above k [] h = refl
without-above k (e ∷ s) h = without-kept k e s Less refl (less _ (first _ _ h)) ∙ ap (λ t. e ∷ t) (without-above k s (second _ _ h))

pub remove-at : (s : List (ℕ × ℕ)) (k i : ℕ) → Sorted s → IsAt k s i → remove s i ≡ change k None s
remove-at [] k i h at = absurd (omega (arith, at.in_range))
remove-at (e ∷ s) k zero h at =
    let above : T (below_all nat_cmp k s) = subst (λ z. T (below_all nat_cmp z s)) (at.has_key e) (first _ _ h) in
    sym (without-taken k e s (at-front e s k at) ∙ without-above k s above)
remove-at (e ∷ s) k (suc i) h at = ap (λ t. e ∷ t) (remove-at s k i (second _ _ h) (at-tail e s k i at)) ∙ sym (without-kept k e s Greater refl (later_key e s k i h at))

pub remove-gap : (s : List (ℕ × ℕ)) (k i : ℕ) → IsGapFor k s i → s ≡ change k None s
remove-gap [] k i gap = refl
remove-gap (e ∷ s) k zero gap = ap (λ t. e ∷ t) (remove-gap s k zero (gap-rest e s k gap)) ∙ sym (without-kept k e s Less refl (gap-before e s k gap))
remove-gap (e ∷ s) k (suc i) gap = ap (λ t. e ∷ t) (remove-gap s k i (gap-tail e s k i gap)) ∙ sym (without-kept k e s Greater refl (gap-after e s k i gap))

-- ---- changes

pub sorted-change : (k : ℕ) (v : Option ℕ) (s : List (ℕ × ℕ)) → Sorted s → Sorted (change k v s)
sorted-change k (Some v) s h = sorted-put k v s h
sorted-change k None s h = is_sorted-where_key nat_cmp (λ x. not (eq_by_cmp nat_cmp k x)) s h

pub sorted-changed : (cs : List (ℕ × Option ℕ)) (s : List (ℕ × ℕ)) → Sorted s → Sorted (changed cs s)
sorted-changed [] s h = h
sorted-changed (c ∷ cs) s h = sorted-change c.0 c.1 (changed cs s) (sorted-changed cs s h)

turned : {A : Type 0} (b : Bool) (x y : A) → cond (not b) x y ≡ cond b y x
turned true x y = refl
turned false x y = refl

find-change : (q k : ℕ) (v : Option ℕ) (s : List (ℕ × ℕ)) → find nat_cmp q (change k v s) ≡ cond (eq_by_cmp nat_cmp q k) v (find nat_cmp q s)
find-change q k (Some v) s = find-put nat_cmp nat_cmp_total q k v s
find-change q k None s =
    find-where_key nat_cmp (λ x. not (eq_by_cmp nat_cmp k x)) q (λ x t. ap (λ z. not (eq_by_cmp nat_cmp k z)) (sym (same_key q x t))) s
    ∙ turned (eq_by_cmp nat_cmp k q) _ _ ∙ ap (λ b. cond b None (find nat_cmp q s)) ((eq_by_cmp_equiv nat_cmp_total).symm k q)

chosen : {A : Type 0} (b : Bool) (v : A) (r : Option A) (y : A) → unwrap_or (cond b (Some v) r) y ≡ cond b v (unwrap_or r y)
chosen true v r y = refl
chosen false v r y = refl

-- at each key the first change counts, and else the map that is changed
pub find-changed : (q : ℕ) (cs : List (ℕ × Option ℕ)) (s : List (ℕ × ℕ)) → find nat_cmp q (changed cs s) ≡ unwrap_or (find nat_cmp q cs) (find nat_cmp q s)
find-changed q [] s = refl
find-changed q (c ∷ cs) s =
    find-change q c.0 c.1 (changed cs s) ∙ ap (λ r. cond (eq_by_cmp nat_cmp q c.0) c.1 r) (find-changed q cs s)
    ∙ sym (chosen (eq_by_cmp nat_cmp q c.0) c.1 (find nat_cmp q cs) (find nat_cmp q s))

-- ---- for lists of entries at rising keys

pub and-both : (a b : Bool) → T a → T b → T (a && b)
and-both true b p q = q
and-both false b p q = absurd p

pub cmp-below : (k q : ℕ) → k < q → nat_cmp k q ≡ Less
cmp-below k q l = by (nat_cmp k q) refl
  where
    by : (r : Ordering) → nat_cmp k q ≡ r → r ≡ Less
    by Less e = refl
    by Equal e = absurd (let same : k ≡ q = same_key k q e in omega arith)
    by Greater e = absurd (apart k q l e)
      where
        apart : (a b : ℕ) → a < b → nat_cmp a b ≡ Greater → ⊥
        apart a b l e = grind arith

pub cmp-above : (q k : ℕ) → k < q → nat_cmp q k ≡ Greater
cmp-above q k l = key_greater k q (cmp-below k q l)

pub cmp-same : (q k : ℕ) → q ≡ k → nat_cmp q k ≡ Equal
cmp-same q k e = subst (λ j. nat_cmp q j ≡ Equal) e (key_itself q)

pub below-cons : (k : ℕ) (e : ℕ × ℕ) (s : List (ℕ × ℕ)) → nat_cmp k e.0 ≡ Less → T (below_all nat_cmp k s) → T (below_all nat_cmp k (e ∷ s))
below-cons k e s l h = and-both _ _ (subst (λ r. T (is_lt r)) (sym l) tt) h

pub find-above : (q : ℕ) (s : List (ℕ × ℕ)) → T (below_all nat_cmp q s) → find nat_cmp q s ≡ None
find-above q [] h = refl
find-above q (e ∷ s) h = find-less q e s (less _ (first _ _ h)) ∙ find-above q s (second _ _ h)
