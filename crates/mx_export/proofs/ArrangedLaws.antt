-- What holds of arranged lists: each element is there once, after those that it cites.
use Rattle.std.proofs.Common.{◌≡◌, ℕ, zero, suc, ◌+◌, ◌<◌, ◌≤◌, Bool, true, false, cond, not, ◌&&◌, ◌||◌, List, [], ◌∷◌, ◌++◌, length, map, Option, Some, None, refl, sym, ap, ◌∙◌, subst, arith, slice_index_or, length-append, append_assoc}
use Rattle.std.proofs.Math.Seq.{get_or-append_seam}
use Rattle.std.specs.Prelude.{option_map, unwrap_or}
use Rattle.std.specs.List.{list_all, list_any, range_with_len}
use Rattle.mx_export.specs.Collecting.{Each}
use Rattle.mx_export.specs.Arrangement.{arranged, is_free, next, taken, unarranged}

-- ---- the same order by other names

module _ {A B : Type 0} (f : A → B) (P : A → Type 0) where
  any-map : (t : A → Bool) (u : B → Bool) (xs : List A) → ((x : A) → P x → t x ≡ u (f x)) → Each P xs → list_any t xs ≡ list_any u (map f xs)
  any-map t u [] same all = refl
  any-map t u (x ∷ xs) same all = ap (λ b. b || list_any t xs) (same x all.0) ∙ ap (λ b. u (f x) || b) (any-map t u xs same all.1)

  abbrev renamed : A × List A → B × List B
  renamed r = (f r.0, map f r.1)

  taken-map : (t : A → Bool) (u : B → Bool) (xs : List A) → ((x : A) → P x → t x ≡ u (f x)) → Each P xs → option_map renamed (taken t xs) ≡ taken u (map f xs)
  taken-map t u [] same all = refl
  taken-map t u (x ∷ xs) same all = by (t x) refl (taken-map t u xs same all.1)
    where
      after : (o : Option (A × List A)) → option_map renamed (option_map (λ r. (r.0, x ∷ r.1)) o) ≡ option_map (λ r. (r.0, f x ∷ r.1)) (option_map renamed o)
      after None = refl
      after (Some r) = refl

      by : (b : Bool) → t x ≡ b → option_map renamed (taken t xs) ≡ taken u (map f xs) → option_map renamed (taken t (x ∷ xs)) ≡ taken u (map f (x ∷ xs))
      by true k later =
          ap (λ b. option_map renamed (cond b (Some (x, xs)) (option_map (λ r. (r.0, x ∷ r.1)) (taken t xs)))) k
          ∙ sym (ap (λ b. cond b (Some (f x, map f xs)) (option_map (λ r. (r.0, f x ∷ r.1)) (taken u (map f xs)))) (sym (same x all.0) ∙ k))
      by false k later =
          ap (λ b. option_map renamed (cond b (Some (x, xs)) (option_map (λ r. (r.0, x ∷ r.1)) (taken t xs)))) k
          ∙ after (taken t xs) ∙ ap (option_map (λ r. (r.0, f x ∷ r.1))) later
          ∙ sym (ap (λ b. cond b (Some (f x, map f xs)) (option_map (λ r. (r.0, f x ∷ r.1)) (taken u (map f xs)))) (sym (same x all.0) ∙ k))

  taken-all : (t : A → Bool) (xs : List A) (r : A × List A) → taken t xs ≡ Some r → Each P xs → Each P r.1
  taken-all t [] r e all = absurd (cc e)
  taken-all t (x ∷ xs) r e all = by (t x) refl (λ q k. taken-all t xs q k all.1)
    where
      inner : ((q : A × List A) → taken t xs ≡ Some q → Each P q.1) → (o : Option (A × List A)) → taken t xs ≡ o → option_map (λ q. (q.0, x ∷ q.1)) o ≡ Some r → Each P r.1
      inner later None k g = absurd (cc g)
      inner later (Some q) k g =
          let same : (q.0, x ∷ q.1) ≡ r = cc g in
          subst (λ (s : A × List A). Each P s.1) same (all.0, later q k)

      by : (b : Bool) → t x ≡ b → ((q : A × List A) → taken t xs ≡ Some q → Each P q.1) → Each P r.1
      by true k later =
          let whole : Some (x, xs) ≡ Some r = sym (ap (λ b. cond b (Some (x, xs)) (option_map (λ q. (q.0, x ∷ q.1)) (taken t xs))) k) ∙ e in
          let same : (x, xs) ≡ r = cc whole in
          subst (λ (s : A × List A). Each P s.1) same all.1
      by false k later = inner later (taken t xs) refl (sym (ap (λ b. cond b (Some (x, xs)) (option_map (λ q. (q.0, x ∷ q.1)) (taken t xs))) k) ∙ e)

  taken-one : (t : A → Bool) (xs : List A) (r : A × List A) → taken t xs ≡ Some r → Each P xs → P r.0
  taken-one t [] r e all = absurd (cc e)
  taken-one t (x ∷ xs) r e all = by (t x) refl (λ q k. taken-one t xs q k all.1)
    where
      inner : ((q : A × List A) → taken t xs ≡ Some q → P q.0) → (o : Option (A × List A)) → taken t xs ≡ o → option_map (λ q. (q.0, x ∷ q.1)) o ≡ Some r → P r.0
      inner later None k g = absurd (cc g)
      inner later (Some q) k g =
          let same : (q.0, x ∷ q.1) ≡ r = cc g in
          subst (λ (s : A × List A). P s.0) same (later q k)

      by : (b : Bool) → t x ≡ b → ((q : A × List A) → taken t xs ≡ Some q → P q.0) → P r.0
      by true k later =
          let whole : Some (x, xs) ≡ Some r = sym (ap (λ b. cond b (Some (x, xs)) (option_map (λ q. (q.0, x ∷ q.1)) (taken t xs))) k) ∙ e in
          let same : (x, xs) ≡ r = cc whole in
          subst (λ (s : A × List A). P s.0) same all.0
      by false k later = inner later (taken t xs) refl (sym (ap (λ b. cond b (Some (x, xs)) (option_map (λ q. (q.0, x ∷ q.1)) (taken t xs))) k) ∙ e)

  pub arranged-all : (c : A → A → Bool) (n : ℕ) (xs : List A) → Each P xs → Each P (arranged c n xs)
  arranged-all c zero xs all = tt
  arranged-all c (suc n) xs all = by (next c xs) refl (λ r k. arranged-all c n r.1 (taken-all (is_free c xs) xs r k all))
    where
      by : (o : Option (A × List A)) → next c xs ≡ o → ((r : A × List A) → next c xs ≡ Some r → Each P (arranged c n r.1)) → Each P (arranged c (suc n) xs)
      by None k later = subst (λ o. Each P (unwrap_or (option_map (λ r. r.0 ∷ arranged c n r.1) o) [])) (sym k) tt
      by (Some r) k later = subst (λ o. Each P (unwrap_or (option_map (λ q. q.0 ∷ arranged c n q.1) o) [])) (sym k) (taken-one (is_free c xs) xs r k all, later r k)

  module _ (c : A → A → Bool) (d : B → B → Bool) (same : (x y : A) → P x → P y → c x y ≡ d (f x) (f y)) where
    next-map : (xs : List A) → Each P xs → option_map renamed (next c xs) ≡ next d (map f xs)
    next-map xs all = taken-map (is_free c xs) (is_free d (map f xs)) xs (λ x p. ap not (any-map (c x) (d (f x)) xs (λ y q. same x y p q) all)) all

    pub arranged-map : (n : ℕ) (xs : List A) → Each P xs → map f (arranged c n xs) ≡ arranged d n (map f xs)
    arranged-map zero xs all = refl
    arranged-map (suc n) xs all = by (next c xs) refl (next-map xs all) (λ r k. arranged-map n r.1 (taken-all (is_free c xs) xs r k all))
      where
        by : (o : Option (A × List A)) → next c xs ≡ o → option_map renamed (next c xs) ≡ next d (map f xs)
            → ((r : A × List A) → next c xs ≡ Some r → map f (arranged c n r.1) ≡ arranged d n (map f r.1)) → map f (arranged c (suc n) xs) ≡ arranged d (suc n) (map f xs)
        by None k later rest =
            ap (λ o. map f (unwrap_or (option_map (λ r. r.0 ∷ arranged c n r.1) o) [])) k
            ∙ sym (ap (λ o. unwrap_or (option_map (λ r. r.0 ∷ arranged d n r.1) o) []) (sym later ∙ ap (option_map renamed) k))
        by (Some r) k later rest =
            ap (λ o. map f (unwrap_or (option_map (λ q. q.0 ∷ arranged c n q.1) o) [])) k
            ∙ ap (λ ys. f r.0 ∷ ys) (rest r k)
            ∙ sym (ap (λ o. unwrap_or (option_map (λ q. q.0 ∷ arranged d n q.1) o) []) (sym later ∙ ap (option_map renamed) k))

-- the elements at all places of a list
module _ {B : Type 0} (d : B) where
  at-places : (before xs : List B) (k : ℕ) → length before ≡ k → map (λ p. slice_index_or (before ++ xs) p d) (range_with_len k (length xs)) ≡ xs
  at-places before [] k e = refl
  at-places before (x ∷ xs) k e =
      ap (λ y. y ∷ map (λ p. slice_index_or (before ++ x ∷ xs) p d) (range_with_len (k + 1) (length xs))) (ap (λ i. slice_index_or (before ++ x ∷ xs) i d) (sym e) ∙ get_or-append_seam before x xs d)
      ∙ ap (λ ys. x ∷ ys)
      (ap (λ (zs : List B). map (λ p. slice_index_or zs p d) (range_with_len (k + 1) (length xs))) (sym (append_assoc before (x ∷ []) xs)) ∙ at-places (before ++ x ∷ []) xs (k + 1) (length-append before (x ∷ []) ∙ ap (λ n. n + 1) e))

  pub at-all-places : (xs : List B) → map (λ p. slice_index_or xs p d) (range_with_len 0 (length xs)) ≡ xs
  at-all-places xs = at-places [] xs 0 refl

pub places-below : (n k m : ℕ) → k + m ≤ n → Each (λ p. p < n) (range_with_len k m)
places-below n k zero h = tt
places-below n k (suc m) h = (omega arith, places-below n (k + 1) m (omega arith))

-- an element at a place
pub each-at : (n : ℕ) (places : List ℕ) (i : ℕ) → Each (λ p. p < n) places → i < length places → slice_index_or places i 0 < n
each-at n [] i h l = absurd (omega (arith, l))
each-at n (p ∷ ps) zero h l = h.0
each-at n (p ∷ ps) (suc i) h l = let m : i < length ps = omega (arith, l) in each-at n ps i h.1 m
