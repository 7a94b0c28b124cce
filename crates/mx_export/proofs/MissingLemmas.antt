-- Ids that are cited and are not there.
use Rattle.std.specs.Prelude.{filter, filter_map}
use Rattle.std.proofs.Common.{◌≡◌, ℕ, zero, suc, [], ◌∷◌, arith, ◌+◌, ◌<◌, ◌≤◌, Bool, true, false, cond, not, Option, Some, None, is_some, ◌&&◌, ◌||◌, List, ◌++◌, bytes_eq, length, take, get_or, refl, sym, ap, ◌∙◌}
use Rattle.std.proofs.Math.Bool.{and-false, or-false}
use Rattle.std.proofs.lemmas.Map.Text.{is_eq-slice_cmp}
use Rattle.std.proofs.lemmas.Slice.Eq.{bytes_eq-Decides}
use Rattle.std.proofs.lemmas.List.Folds.{list_any-append, list_any_more}
use Rattle.std.specs.Cmp.Lexicographic.{slice_cmp}
use Rattle.std.specs.List.{cons_option, list_any}
use Rattle.std.specs.Ordering.{nat_cmp, is_eq}
use Rattle.mx_redact.specs.Redaction.{is_among}
use Rattle.mx_export.proofs.IdLaws.{neither-left, neither-right}

module _ (has : List ℕ → Bool) (id : List ℕ) where
  -- one that is there adds none
  pub there-adds : (old : List ℕ → Bool) → has id ≡ true → (q : List ℕ) → old q ≡ (old q || (bytes_eq q id && not (has q)))
  there-adds old there q = by (bytes_eq q id) refl
    where
      none : (b : Bool) → b ≡ (b || false)
      none true = refl
      none false = refl

      by : (b : Bool) → bytes_eq q id ≡ b → old q ≡ (old q || (bytes_eq q id && not (has q)))
      by true k =
          let known : has q ≡ true = ap has ((bytes_eq-Decides q id).0 k) ∙ there in
          none (old q) ∙ sym (ap (λ b. old q || (b && not (has q))) k ∙ ap (λ b. old q || not b) known)
      by false k = none (old q) ∙ sym (ap (λ b. old q || (b && not (has q))) k)

  -- one that is missing is added
  pub missing-adds : (old new : List ℕ → Bool) → has id ≡ false → ((q : List ℕ) → new q ≡ cond (is_eq (slice_cmp nat_cmp id q)) true (old q))
      → (q : List ℕ) → new q ≡ (old q || (bytes_eq q id && not (has q)))
  missing-adds old new missing step q = step q ∙ ap (λ b. cond b true (old q)) (is_eq-slice_cmp id q) ∙ by (bytes_eq q id) refl
    where
      last : (b : Bool) → true ≡ (b || true)
      last true = refl
      last false = refl

      none : (b : Bool) → b ≡ (b || false)
      none true = refl
      none false = refl

      turned : (b : Bool) → bytes_eq q id ≡ b → bytes_eq id q ≡ b
      turned true k = (bytes_eq-Decides id q).1 (sym ((bytes_eq-Decides q id).0 k))
      turned false k = back (bytes_eq id q) refl
        where
          back : (b : Bool) → bytes_eq id q ≡ b → b ≡ false
          back true j = absurd (cc (sym ((bytes_eq-Decides q id).1 (sym ((bytes_eq-Decides id q).0 j))) ∙ k))
          back false j = refl

      by : (b : Bool) → bytes_eq q id ≡ b → cond (bytes_eq id q) true (old q) ≡ (old q || (bytes_eq q id && not (has q)))
      by true k =
          let fresh : has q ≡ false = ap has ((bytes_eq-Decides q id).0 k) ∙ missing in
          ap (λ b. cond b true (old q)) (turned true k) ∙ last (old q) ∙ sym (ap (λ b. old q || (b && not (has q))) k ∙ ap (λ b. old q || not b) fresh)
      by false k = ap (λ b. cond b true (old q)) (turned false k) ∙ none (old q) ∙ sym (ap (λ b. old q || (b && not (has q))) k)

-- no more are found than are looked for
found-few : (f : List ℕ → Option ℕ) (ids : List (List ℕ)) → length (filter_map f ids) ≤ length ids
found-few f [] = omega arith
found-few f (id ∷ ids) = by (f id) (found-few f ids)
  where
    by : (o : Option ℕ) → length (filter_map f ids) ≤ length ids → length (cons_option o (filter_map f ids)) ≤ suc (length ids)
    by None l = omega (arith, l)
    by (Some p) l = omega (arith, l)

-- where as many are found as are looked for, none is missing
pub none-missing : (has : List ℕ → Bool) (f : List ℕ → Option ℕ) → ((id : List ℕ) → is_some (f id) ≡ has id) → (ids : List (List ℕ))
    → length (filter_map f ids) ≡ length ids → list_any (λ id. not (has id)) ids ≡ false
none-missing has f found [] e = refl
none-missing has f found (id ∷ ids) e = by (f id) refl (none-missing has f found ids)
  where
    by : (o : Option ℕ) → f id ≡ o → (length (filter_map f ids) ≡ length ids → list_any (λ i. not (has i)) ids ≡ false) → (not (has id) || list_any (λ i. not (has i)) ids) ≡ false
    by None k later =
        let more : length (filter_map f ids) ≡ suc (length ids) = sym (ap (λ o. length (cons_option o (filter_map f ids))) k) ∙ e in
        let few = found-few f ids in
        absurd (omega (arith, more, few))
    by (Some p) k later =
        let more : suc (length (filter_map f ids)) ≡ suc (length ids) = sym (ap (λ o. length (cons_option o (filter_map f ids))) k) ∙ e in
        let there : has id ≡ true = sym (found id) ∙ ap is_some k in
        ap (λ b. not b || list_any (λ i. not (has i)) ids) there ∙ later (omega (arith, more))

-- where none is missing, none is added
pub none-adds : (has : List ℕ → Bool) (ids : List (List ℕ)) → list_any (λ id. not (has id)) ids ≡ false → (old : List ℕ → Bool) (q : List ℕ)
    → old q ≡ (old q || (is_among ids q && not (has q)))
none-adds has ids none old q = sym (or-false (old q)) ∙ sym (ap (λ b. old q || b) (among ids none))
  where
    among : (ids : List (List ℕ)) → list_any (λ id. not (has id)) ids ≡ false → (is_among ids q && not (has q)) ≡ false
    among [] h = refl
    among (id ∷ ids) h = by (bytes_eq q id) refl (among ids (neither-right (not (has id)) (list_any (λ i. not (has i)) ids) h))
      where
        by : (b : Bool) → bytes_eq q id ≡ b → (is_among ids q && not (has q)) ≡ false → ((bytes_eq q id || is_among ids q) && not (has q)) ≡ false
        by true k later =
            let there : not (has q) ≡ false = ap (λ i. not (has i)) ((bytes_eq-Decides q id).0 k) ∙ neither-left (not (has id)) (list_any (λ i. not (has i)) ids) h in
            ap (λ b. (bytes_eq q id || is_among ids q) && b) there ∙ and-false (bytes_eq q id || is_among ids q)
        by false k later = ap (λ b. (b || is_among ids q) && not (has q)) k ∙ later

-- two sets of ids, one after the other
both : (a b c n : Bool) → ((a || (b && n)) || (c && n)) ≡ (a || ((b || c) && n))
both true b c n = refl
both false true true true = refl
both false true true false = refl
both false true false true = refl
both false true false false = refl
both false false c n = refl

pub two-adds : (old mid new has : List ℕ → Bool) (xs ys : List (List ℕ)) → ((q : List ℕ) → mid q ≡ (old q || (is_among xs q && not (has q))))
    → ((q : List ℕ) → new q ≡ (mid q || (is_among ys q && not (has q)))) → (q : List ℕ) → new q ≡ (old q || (is_among (xs ++ ys) q && not (has q)))
two-adds old mid new has xs ys f g q =
    g q ∙ ap (λ b. b || (is_among ys q && not (has q))) (f q) ∙ both (old q) (is_among xs q) (is_among ys q) (not (has q))
    ∙ ap (λ b. old q || (b && not (has q))) (sym (list_any-append (bytes_eq q) xs ys))

pub one-adds : (old mid new has : List ℕ → Bool) (xs : List (List ℕ)) (i : ℕ) (x : List ℕ) → i < length xs → x ≡ get_or xs i x → ((q : List ℕ) → mid q ≡ (old q || (is_among (take i xs) q && not (has q))))
    → ((q : List ℕ) → new q ≡ (mid q || (bytes_eq q x && not (has q)))) → (q : List ℕ) → new q ≡ (old q || (is_among (take (i + 1) xs) q && not (has q)))
one-adds old mid new has xs i x l e f g q =
    g q ∙ ap (λ b. b || (bytes_eq q x && not (has q))) (f q) ∙ both (old q) (is_among (take i xs) q) (bytes_eq q x) (not (has q))
    ∙ ap (λ b. old q || (b && not (has q))) (ap (λ y. is_among (take i xs) q || bytes_eq q y) e ∙ sym (list_any_more (bytes_eq q) xs i x l))

-- of the first elements, and of the next
spread : (a b n : Bool) → ((a && n) || (b && n)) ≡ ((a || b) && n)
spread true true true = refl
spread true true false = refl
spread true false true = refl
spread true false false = refl
spread false b n = refl

module _ {A : Type 0} where
  pub any-adds : (f : A → Bool) (n mid new : Bool) (xs : List A) (i : ℕ) (x : A) → i < length xs → x ≡ get_or xs i x → mid ≡ (list_any f (take i xs) && n) → new ≡ (mid || (f x && n))
      → new ≡ (list_any f (take (i + 1) xs) && n)
  any-adds f n mid new xs i x l e m p =
      p ∙ ap (λ b. b || (f x && n)) m ∙ spread (list_any f (take i xs)) (f x) n ∙ ap (λ b. b && n) (ap (λ y. list_any f (take i xs) || f y) e ∙ sym (list_any_more f xs i x l))

  count-suc : (p : A → Bool) (xs : List A) (i : ℕ) (d : A) → i < length xs → length (filter p (take (suc i) xs)) ≡ cond (p (get_or xs i d)) (suc (length (filter p (take i xs)))) (length (filter p (take i xs)))
  count-suc p [] i d l = absurd (omega (arith, l))
  count-suc p (x ∷ xs) zero d l = by (p x)
    where
      by : (b : Bool) → length (cond b (x ∷ []) []) ≡ cond b 1 0
      by true = refl
      by false = refl
  count-suc p (x ∷ xs) (suc i) d l = let m : i < length xs = omega (arith, l) in by (p x) (p (get_or xs i d)) (count-suc p xs i d m)
    where
      by : (b t : Bool) → length (filter p (take (suc i) xs)) ≡ cond t (suc (length (filter p (take i xs)))) (length (filter p (take i xs)))
          → length (cond b (x ∷ filter p (take (suc i) xs)) (filter p (take (suc i) xs))) ≡ cond t (suc (length (cond b (x ∷ filter p (take i xs)) (filter p (take i xs))))) (length (cond b (x ∷ filter p (take i xs)) (filter p (take i xs))))
      by true true h = ap suc h
      by true false h = ap suc h
      by false true h = h
      by false false h = h

  pub count-more : (p : A → Bool) (xs : List A) (i : ℕ) (x : A) → i < length xs → x ≡ get_or xs i x → length (filter p (take (i + 1) xs)) ≡ cond (p x) (suc (length (filter p (take i xs)))) (length (filter p (take i xs)))
  count-more p xs i x l e =
      let one : i + 1 ≡ suc i = omega arith in
      ap (λ n. length (filter p (take n xs))) one ∙ count-suc p xs i x l ∙ ap (λ y. cond (p y) (suc (length (filter p (take i xs)))) (length (filter p (take i xs)))) (sym e)
