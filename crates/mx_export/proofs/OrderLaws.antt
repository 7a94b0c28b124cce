-- What holds of arranged lists: each element is there once, after those that it cites.
use Rattle.std.proofs.Common.{◌≡◌, ℕ, zero, suc, ◌+◌, ◌<◌, ◌≤◌, Bool, true, false, cond, not, ◌&&◌, ◌||◌, List, [], ◌∷◌, ◌++◌, length, Option, Some, None, refl, sym, ap, ◌∙◌, subst, arith, append-nil}
use Rattle.std.specs.Prelude.{option_map, unwrap_or}
use Rattle.std.specs.List.{list_all, list_any}
use Rattle.std.specs.List.Sorted.{IsPermutation}
use Rattle.std.proofs.lemmas.List.Sorted.{IsPermutation-cons, IsPermutation-middle, IsPermutation-refl, IsPermutation-trans, length_permutation, list_any-IsPermutation}
use Rattle.mx_export.specs.Arrangement.{arranged, follow_cited, is_free, next, taken, unarranged}

module _ {A : Type 0} where
  -- what is taken passes the test, and the list has it and the others
  pub record IsTaken (t : A → Bool) (xs : List A) (r : A × List A) : Type 0 where
    pub passes : t r.0 ≡ true
    pub same : IsPermutation xs (r.0 ∷ r.1)

  pub taken-is : (t : A → Bool) (xs : List A) (r : A × List A) → taken t xs ≡ Some r → IsTaken t xs r
  taken-is t [] r e = absurd (cc e)
  taken-is t (x ∷ xs) r e = by (t x) refl (λ q k. taken-is t xs q k)
    where
      inner : ((q : A × List A) → taken t xs ≡ Some q → IsTaken t xs q) → (o : Option (A × List A)) → taken t xs ≡ o → option_map (λ q. (q.0, x ∷ q.1)) o ≡ Some r → IsTaken t (x ∷ xs) r
      inner later None k g = absurd (cc g)
      inner later (Some q) k g =
          let same : (q.0, x ∷ q.1) ≡ r = cc g in
          let h = later q k in
          subst (λ (s : A × List A). IsTaken t (x ∷ xs) s) same
          (record {
            passes = h.passes;
            same = IsPermutation-trans (x ∷ xs) (x ∷ q.0 ∷ q.1) (q.0 ∷ x ∷ q.1) (IsPermutation-cons x xs (q.0 ∷ q.1) h.same) (IsPermutation-middle (x ∷ []) q.0 q.1);
          })

      by : (b : Bool) → t x ≡ b → ((q : A × List A) → taken t xs ≡ Some q → IsTaken t xs q) → IsTaken t (x ∷ xs) r
      by true k later =
          let whole : Some (x, xs) ≡ Some r = sym (ap (λ b. cond b (Some (x, xs)) (option_map (λ q. (q.0, x ∷ q.1)) (taken t xs))) k) ∙ e in
          let same : (x, xs) ≡ r = cc whole in
          subst (λ (s : A × List A). IsTaken t (x ∷ xs) s) same (record { passes = k; same = IsPermutation-refl (x ∷ xs) })
      by false k later = inner later (taken t xs) refl (sym (ap (λ b. cond b (Some (x, xs)) (option_map (λ q. (q.0, x ∷ q.1)) (taken t xs))) k) ∙ e)

  -- none passes the test
  pub taken-no : (t : A → Bool) (xs : List A) → taken t xs ≡ None → list_all (λ x. not (t x)) xs ≡ true
  taken-no t [] e = refl
  taken-no t (x ∷ xs) e = by (t x) refl (λ k. taken-no t xs k)
    where
      inner : (o : Option (A × List A)) → option_map {T = A × List A} {U = A × List A} (λ q. (q.0, x ∷ q.1)) o ≡ None → o ≡ None
      inner None k = refl
      inner (Some q) k = absurd (cc k)

      by : (b : Bool) → t x ≡ b → (taken t xs ≡ None → list_all (λ x. not (t x)) xs ≡ true) → list_all (λ x. not (t x)) (x ∷ xs) ≡ true
      by true k later = absurd (cc (sym (ap (λ b. cond b (Some (x, xs)) (option_map (λ q. (q.0, x ∷ q.1)) (taken t xs))) k) ∙ e))
      by false k later =
          rw k (later (inner (taken t xs) (sym (ap (λ b. cond b (Some (x, xs)) (option_map (λ q. (q.0, x ∷ q.1)) (taken t xs))) k) ∙ e)))

  module _ (c : A → A → Bool) where
    arranged-some : (n : ℕ) (xs : List A) (r : A × List A) → next c xs ≡ Some r → arranged c (suc n) xs ≡ r.0 ∷ arranged c n r.1
    arranged-some n xs r k = ap (λ o. unwrap_or (option_map (λ q. q.0 ∷ arranged c n q.1) o) []) k

    arranged-no : (n : ℕ) (xs : List A) → next c xs ≡ None → arranged c (suc n) xs ≡ []
    arranged-no n xs k = ap (λ o. unwrap_or (option_map (λ q. q.0 ∷ arranged c n q.1) o) []) k

    rest-some : (n : ℕ) (xs : List A) (r : A × List A) → next c xs ≡ Some r → unarranged c (suc n) xs ≡ unarranged c n r.1
    rest-some n xs r k = ap (λ o. unwrap_or (option_map (λ q. unarranged c n q.1) o) xs) k

    rest-no : (n : ℕ) (xs : List A) → next c xs ≡ None → unarranged c (suc n) xs ≡ xs
    rest-no n xs k = ap (λ o. unwrap_or (option_map (λ q. unarranged c n q.1) o) xs) k

    pub whole : (n : ℕ) (xs : List A) → IsPermutation xs (arranged c n xs ++ unarranged c n xs)
    whole zero xs = IsPermutation-refl xs
    whole (suc n) xs = by (next c xs) refl (λ r k. whole n r.1)
      where
        by : (o : Option (A × List A)) → next c xs ≡ o → ((r : A × List A) → next c xs ≡ Some r → IsPermutation r.1 (arranged c n r.1 ++ unarranged c n r.1))
            → IsPermutation xs (arranged c (suc n) xs ++ unarranged c (suc n) xs)
        by None k later = subst (IsPermutation xs) (sym (ap (λ ys. ys ++ unarranged c (suc n) xs) (arranged-no n xs k) ∙ rest-no n xs k)) (IsPermutation-refl xs)
        by (Some r) k later =
            subst (IsPermutation xs) (sym (ap (λ ys. ys ++ unarranged c (suc n) xs) (arranged-some n xs r k) ∙ ap (λ ys. r.0 ∷ (arranged c n r.1 ++ ys)) (rest-some n xs r k)))
            (IsPermutation-trans xs (r.0 ∷ r.1) (r.0 ∷ (arranged c n r.1 ++ unarranged c n r.1)) (taken-is (is_free c xs) xs r k).same (IsPermutation-cons r.0 r.1 (arranged c n r.1 ++ unarranged c n r.1) (later r k)))

    flipped : (b : Bool) → not b ≡ true → b ≡ false
    flipped true e = absurd (cc e)
    flipped false e = refl

    pub cited-first : (n : ℕ) (xs : List A) → follow_cited c (arranged c n xs) (unarranged c n xs) ≡ true
    cited-first zero xs = refl
    cited-first (suc n) xs = by (next c xs) refl (λ r k. cited-first n r.1)
      where
        by : (o : Option (A × List A)) → next c xs ≡ o → ((r : A × List A) → next c xs ≡ Some r → follow_cited c (arranged c n r.1) (unarranged c n r.1) ≡ true)
            → follow_cited c (arranged c (suc n) xs) (unarranged c (suc n) xs) ≡ true
        by None k later = ap (λ ys. follow_cited c ys (unarranged c (suc n) xs)) (arranged-no n xs k)
        by (Some r) k later =
            let h = taken-is (is_free c xs) xs r k in
            let all : IsPermutation xs (r.0 ∷ (arranged c n r.1 ++ unarranged c n r.1)) =
            IsPermutation-trans xs (r.0 ∷ r.1) (r.0 ∷ (arranged c n r.1 ++ unarranged c n r.1)) h.same (IsPermutation-cons r.0 r.1 (arranged c n r.1 ++ unarranged c n r.1) (whole n r.1)) in
            let none : list_any (c r.0) (r.0 ∷ (arranged c n r.1 ++ unarranged c n r.1)) ≡ false =
            sym (list_any-IsPermutation (c r.0) xs (r.0 ∷ (arranged c n r.1 ++ unarranged c n r.1)) all) ∙ flipped (list_any (c r.0) xs) h.passes in
            ap (λ ys. follow_cited c ys (unarranged c (suc n) xs)) (arranged-some n xs r k)
            ∙ ap (follow_cited c (r.0 ∷ arranged c n r.1)) (rest-some n xs r k)
            ∙ ap (λ b. not b && follow_cited c (arranged c n r.1) (unarranged c n r.1)) none
            ∙ later r k

    twice : (f : A → Bool) (xs : List A) → list_all (λ x. not (not (f x))) xs ≡ list_all f xs
    twice f [] = refl
    twice f (x ∷ xs) = ap (λ b. b && list_all (λ x. not (not (f x))) xs) (back (f x)) ∙ ap (λ b. f x && b) (twice f xs)
      where
        back : (b : Bool) → not (not b) ≡ b
        back true = refl
        back false = refl

    pub in-circles : (n : ℕ) (xs : List A) → length xs ≤ n → list_all (λ x. list_any (c x) (unarranged c n xs)) (unarranged c n xs) ≡ true
    in-circles zero [] l = refl
    in-circles zero (x ∷ xs) l = absurd (omega (arith, l))
    in-circles (suc n) xs l = by (next c xs) refl (λ r k m. in-circles n r.1 m)
      where
        by : (o : Option (A × List A)) → next c xs ≡ o
            → ((r : A × List A) → next c xs ≡ Some r → length r.1 ≤ n → list_all (λ x. list_any (c x) (unarranged c n r.1)) (unarranged c n r.1) ≡ true)
            → list_all (λ x. list_any (c x) (unarranged c (suc n) xs)) (unarranged c (suc n) xs) ≡ true
        by None k later =
            ap (λ ys. list_all (λ x. list_any (c x) ys) ys) (rest-no n xs k) ∙ sym (twice (λ x. list_any (c x) xs) xs) ∙ taken-no (is_free c xs) xs k
        by (Some r) k later =
            let fewer : length r.1 ≤ n = (let e = length_permutation xs (r.0 ∷ r.1) (taken-is (is_free c xs) xs r k).same in omega (arith, e, l)) in
            ap (λ ys. list_all (λ x. list_any (c x) ys) ys) (rest-some n xs r k) ∙ later r k fewer

    pub stays : (xs : List A) → follow_cited c xs [] ≡ true → arranged c (length xs) xs ≡ xs
    stays [] e = refl
    stays (x ∷ xs) e =
        let free : is_free c (x ∷ xs) x ≡ true = ap (λ ys. not (list_any (c x) (x ∷ ys))) (sym (append-nil xs)) ∙ both-left (not (list_any (c x) (x ∷ (xs ++ [])))) (follow_cited c xs []) e in
        let first : next c (x ∷ xs) ≡ Some (x, xs) = ap (λ b. cond b (Some (x, xs)) (option_map (λ q. (q.0, x ∷ q.1)) (taken (is_free c (x ∷ xs)) xs))) free in
        arranged-some (length xs) (x ∷ xs) (x, xs) first ∙ ap (λ ys. x ∷ ys) (stays xs (both-right (not (list_any (c x) (x ∷ (xs ++ [])))) (follow_cited c xs []) e))
      where
        both-left : (a b : Bool) → (a && b) ≡ true → a ≡ true
        both-left true b h = refl
        both-left false b h = absurd (cc h)

        both-right : (a b : Bool) → (a && b) ≡ true → b ≡ true
        both-right true b h = h
        both-right false b h = absurd (cc h)
