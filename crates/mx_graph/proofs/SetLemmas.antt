-- Sets of numbers in the order of their numbers, as rising lists.
use Rattle.std.proofs.Common.{◌≡◌, ℕ, Bool, ◌==◌, ◌<◌, true, false, ◌||◌, ◌⊎◌, inl, inr, List, [], ◌∷◌, refl, ap, ap₂, sym, subst, ◌∙◌, arith, eqb-true}
use Rattle.std.proofs.lemmas.Bool.Decides.{nat_tests}
use Rattle.std.specs.declared.cmp.Ordering.TheVariants.{Less}
use Rattle.std.specs.Ordering.{nat_cmp, is_eq}
use Rattle.std.specs.Cmp.{nat_cmp_total}
use Rattle.std.specs.List.{AllByRecursion, list_any}
use Rattle.std.specs.List.{dedup, dedup_from}
use Rattle.std.specs.List.Retain.{DiffersFromLast, IsFiltered}
use Rattle.std.specs.List.Sorted.{IsPermutation, IsSorted, IsStrictlySortedBy}
use Rattle.std.proofs.lemmas.List.Filters.{dedup_is}
use Rattle.std.proofs.lemmas.List.Kept.{IsStrictlySortedBy-dedup}
use Rattle.std.proofs.lemmas.List.Sorted.{list_any-IsPermutation}
use Rattle.mx_graph.specs.Record.{is_in}
use Rattle.mx_graph.specs.Edges.{Rises}
use Rattle.mx_graph.proofs.Closure.{or_cases}

tied-is : (p x : ℕ) → is_eq (nat_cmp p x) ≡ (x == p)
tied-is p x = grind (arith, nat_tests)

pub contains-is : (xs : List ℕ) (p : ℕ) → list_any (λ k. is_eq (nat_cmp p k)) xs ≡ is_in xs p
contains-is [] p = refl
contains-is (x ∷ xs) p = ap₂ (λ a b. a || b) (tied-is p x) (contains-is xs p)

less-from : (x z : ℕ) → nat_cmp x z ≡ Less → x < z
less-from x z e = grind (arith, nat_tests)

after_first : (x : ℕ) (xs : List ℕ) → AllByRecursion (λ y. nat_cmp x y ≡ Less) xs → (y : ℕ) → is_in xs y ≡ true → x < y
after_first x [] h y e = absurd (cc e)
after_first x (z ∷ zs) h y e = by (λ k. after_first x zs h.1 y k) (or_cases (z == y) (is_in zs y) e)
  where
    by : (is_in zs y ≡ true → x < y) → ((z == y) ≡ true) ⊎ (is_in zs y ≡ true) → x < y
    by later (inl k) = let s : z ≡ y = eqb-true z y k in let l : x < z = less-from x z h.0 in omega arith
    by later (inr k) = later k

pub rises-from : (xs : List ℕ) → IsStrictlySortedBy nat_cmp xs → Rises xs
unfolding IsStrictlySortedBy
rises-from [] h = tt
rises-from (x ∷ xs) h = (λ y m. after_first x xs h.0 y m, rises-from xs h.1)

or-twice : (a b : Bool) → (a || b) ≡ (a || (a || b))
or-twice true b = refl
or-twice false b = refl

tied-numbers : (x y : ℕ) → (x == y) ≡ is_eq (nat_cmp x y)
tied-numbers x y = grind (arith, nat_tests)

-- a sorted list without repetitions rises
pub rises-deduped : (xs ys : List ℕ) → IsSorted nat_cmp xs → IsFiltered (DiffersFromLast (λ x y. x == y)) [] xs ys → Rises ys
rises-deduped xs ys sorted kept = subst Rises (sym (dedup_is (λ x y. x == y) xs ys kept)) (rises-from (dedup (λ x y. x == y) xs) (IsStrictlySortedBy-dedup nat_cmp_total tied-numbers xs sorted))

is_in-dedup_from : (p k : ℕ) (xs : List ℕ) → is_in (dedup_from (λ x y. x == y) k xs) p ≡ is_in (k ∷ xs) p
is_in-dedup_from p k [] = refl
is_in-dedup_from p k (x ∷ xs) = cases (x == k) refl (is_in-dedup_from p k xs) (is_in-dedup_from p x xs)
  where
    cases : (b : Bool) → (x == k) ≡ b → is_in (dedup_from (λ x y. x == y) k xs) p ≡ is_in (k ∷ xs) p
        → is_in (dedup_from (λ x y. x == y) x xs) p ≡ is_in (x ∷ xs) p
        → is_in (dedup_from (λ x y. x == y) k (x ∷ xs)) p ≡ is_in (k ∷ (x ∷ xs)) p
    cases true e same other = let s : x ≡ k = eqb-true x k e in rw (e, same, s) (or-twice (k == p) (is_in xs p))
    cases false e same other = rw (e, other) refl

is_in-dedup : (p : ℕ) (xs : List ℕ) → is_in (dedup (λ x y. x == y) xs) p ≡ is_in xs p
is_in-dedup p [] = refl
is_in-dedup p (x ∷ xs) = is_in-dedup_from p x xs

-- and has what the list had of which it is a permutation
pub same-deduped : (xs ys zs : List ℕ) → IsPermutation xs ys → IsFiltered (DiffersFromLast (λ x y. x == y)) [] ys zs → (p : ℕ) → is_in zs p ≡ is_in xs p
same-deduped xs ys zs moved kept p =
    ap (λ l. is_in l p) (dedup_is (λ x y. x == y) ys zs kept) ∙ is_in-dedup p ys ∙ sym (list_any-IsPermutation (λ x. x == p) xs ys moved)
