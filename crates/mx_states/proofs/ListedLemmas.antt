-- Maps as what a function has at the keys from one on.
use Rattle.std.proofs.Common.{◌≡◌, ℕ, zero, suc, ◌+◌, ◌-◌, ◌<◌, ◌≤◌, max, ◌++◌, List, [], Some, None, refl, sym, ap, ◌∙◌, ◌⊎◌, inl, inr, arith}
use Rattle.std.specs.Prelude.{Option, T}
use Rattle.std.specs.Ordering.{nat_cmp}
use Rattle.std.specs.Cmp.{nat_cmp_total}
use Rattle.std.specs.FinMap.{nat_cmp-IsAntisymmetric}
use Rattle.std.specs.FinMap.Entries.{find, below_all, same_entries}
use Rattle.mx_states.specs.StoredSnapshots.{with_entry, listed}
use Rattle.mx_states.proofs.SnapshotEntryLemmas.{Sorted, and-both, below-cons, cmp-above, cmp-below, cmp-same, find-above, find-equal, find-greater}

-- all keys are above one before the first
listed-above : (f : ℕ → Option ℕ) (k from n : ℕ) → k < from → T (below_all nat_cmp k (listed f from n))
listed-above f k from zero l = tt
listed-above f k from (suc n) l = by (f from) (listed-above f k (from + 1) n (omega arith))
  where
    by : (o : Option ℕ) → T (below_all nat_cmp k (listed f (from + 1) n)) → T (below_all nat_cmp k (with_entry from o (listed f (from + 1) n)))
    by None h = h
    by (Some v) h = below-cons k (from, v) (listed f (from + 1) n) (cmp-below k from l) h

pub listed-sorted : (f : ℕ → Option ℕ) (from n : ℕ) → Sorted (listed f from n)
listed-sorted f from zero = tt
listed-sorted f from (suc n) = by (f from) (listed-sorted f (from + 1) n)
  where
    by : (o : Option ℕ) → Sorted (listed f (from + 1) n) → Sorted (with_entry from o (listed f (from + 1) n))
    by None h = h
    by (Some v) h = and-both _ _ (listed-above f from (from + 1) n (omega arith)) h

-- what is found is what the function has, where it has nothing past the last key
pub listed-find : (f : ℕ → Option ℕ) (from n q : ℕ) → from ≤ q → (from + n ≤ q → f q ≡ None) → find nat_cmp q (listed f from n) ≡ f q
listed-find f from zero q l past = sym (past (omega arith))
listed-find f from (suc n) q l past = by (cases from q) (f from) refl (λ k. listed-find f (from + 1) n q k (λ h. past (omega arith)))
  where
    cases : (a b : ℕ) → (b ≤ a) ⊎ (a + 1 ≤ b)
    cases a b = grind arith

    by : (q ≤ from) ⊎ (from + 1 ≤ q) → (o : Option ℕ) → f from ≡ o → (from + 1 ≤ q → find nat_cmp q (listed f (from + 1) n) ≡ f q) → find nat_cmp q (with_entry from o (listed f (from + 1) n)) ≡ f q
    by (inl k) None e rest =
        let same : from ≡ q = omega arith in
        find-above q (listed f (from + 1) n) (listed-above f q (from + 1) n (omega arith)) ∙ sym e ∙ ap f same
    by (inl k) (Some v) e rest =
        let same : from ≡ q = omega arith in
        find-equal q (from, v) (listed f (from + 1) n) (cmp-same q from (sym same)) ∙ sym e ∙ ap f same
    by (inr k) None e rest = rest k
    by (inr k) (Some v) e rest = find-greater q (from, v) (listed f (from + 1) n) (cmp-above q from (omega arith)) ∙ rest k

pub listed-same : (f g : ℕ → Option ℕ) (from n : ℕ) → ((q : ℕ) → f q ≡ g q) → listed f from n ≡ listed g from n
listed-same f g from zero h = refl
listed-same f g from (suc n) h = ap (λ o. with_entry from o (listed f (from + 1) n)) (h from) ∙ ap (with_entry from (g from)) (listed-same f g (from + 1) n h)

-- a map in order is what a function has, where all that is found is
pub listed-is : (f : ℕ → Option ℕ) (n : ℕ) (s : List (ℕ × ℕ)) → Sorted s → ((q : ℕ) → n ≤ q → f q ≡ None) → ((q : ℕ) → find nat_cmp q s ≡ f q) → listed f 0 n ≡ s
listed-is f n s h past same =
    same_entries nat_cmp nat_cmp_total (λ x y e. nat_cmp-IsAntisymmetric x y e) (listed f 0 n) s (listed-sorted f 0 n) h
    (λ q. listed-find f 0 n q (omega arith) (λ k. past q (omega arith)) ∙ sym (same q))

pub entry-before : (key : ℕ) (o : Option ℕ) (rest : List (ℕ × ℕ)) → with_entry key o rest ≡ with_entry key o [] ++ rest
entry-before key None rest = refl
entry-before key (Some v) rest = refl

pub listed-step : (f : ℕ → Option ℕ) (from n : ℕ) → from < n → listed f from (n - from) ≡ with_entry from (f from) (listed f (from + 1) (n - (from + 1)))
listed-step f from n l = ap (listed f from) (more from n l)
  where
    more : (a b : ℕ) → a < b → b - a ≡ suc (b - (a + 1))
    more a b l = omega arith

pub max-bounds : (a b m : ℕ) → m ≡ max a b → record { first : a ≤ m; other : b ≤ m; least : (z : ℕ) → a ≤ z → b ≤ z → m ≤ z }
max-bounds a b m e = record { first = above-first a b m e; other = above-other a b m e; least = λ z k l. least a b m z e k l }
  where
    above-first : (a b m : ℕ) → m ≡ max a b → a ≤ m
    above-first a b m e = grind arith

    above-other : (a b m : ℕ) → m ≡ max a b → b ≤ m
    above-other a b m e = grind arith

    least : (a b m z : ℕ) → m ≡ max a b → a ≤ z → b ≤ z → m ≤ z
    least a b m z e k l = grind arith
