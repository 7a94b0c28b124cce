-- Members of lists, by cases on the list.
use Rattle.std.proofs.Common.{◌≡◌, Bool, true, false, cond, ◌⊎◌, inl, inr, List, [], ◌∷◌, ◌++◌, filter, flat_map, refl, sym, ap, subst, ◌∙◌}

module _ {A : Type 0} where
  abbrev pub In : A → List A → Type 0
  In x [] = ⊥
  In x (y ∷ ys) = (x ≡ y) ⊎ In x ys

  pub in_append-left : (x : A) (xs ys : List A) → In x xs → In x (xs ++ ys)
  in_append-left x [] ys h = absurd h
  in_append-left x (y ∷ xs) ys (inl e) = inl e
  in_append-left x (y ∷ xs) ys (inr h) = inr (in_append-left x xs ys h)

  pub in_append-right : (x : A) (xs ys : List A) → In x ys → In x (xs ++ ys)
  in_append-right x [] ys h = h
  in_append-right x (y ∷ xs) ys h = inr (in_append-right x xs ys h)

  pub in_append-cases : (x : A) (xs ys : List A) → In x (xs ++ ys) → In x xs ⊎ In x ys
  in_append-cases x [] ys h = inr h
  in_append-cases x (y ∷ xs) ys (inl e) = inl (inl e)
  in_append-cases x (y ∷ xs) ys (inr h) = by (in_append-cases x xs ys h)
    where
      by : In x xs ⊎ In x ys → In x (y ∷ xs) ⊎ In x ys
      by (inl k) = inl (inr k)
      by (inr k) = inr k

  filter_case : (b : Bool) (x y : A) (xs : List A) → b ≡ true → x ≡ y → In x (cond b (y ∷ xs) xs)
  filter_case true x y xs e k = inl k
  filter_case false x y xs e k = absurd (cc e)

  filter_later : (b : Bool) (x y : A) (xs : List A) → In x xs → In x (cond b (y ∷ xs) xs)
  filter_later true x y xs h = inr h
  filter_later false x y xs h = h

  pub in_filter : (test : A → Bool) (x : A) (xs : List A) → In x xs → test x ≡ true → In x (filter test xs)
  in_filter test x [] h e = absurd h
  in_filter test x (y ∷ ys) (inl k) e = filter_case (test y) x y (filter test ys) (sym (ap test k) ∙ e) k
  in_filter test x (y ∷ ys) (inr h) e = filter_later (test y) x y (filter test ys) (in_filter test x ys h e)

  filter_cases : (b : Bool) (x y : A) (xs : List A) → In x (cond b (y ∷ xs) xs) → ((x ≡ y) × (b ≡ true)) ⊎ In x xs
  filter_cases true x y xs (inl e) = inl (e, refl)
  filter_cases true x y xs (inr h) = inr h
  filter_cases false x y xs h = inr h

  pub in_filter-parts : (test : A → Bool) (x : A) (xs : List A) → In x (filter test xs) → In x xs × (test x ≡ true)
  in_filter-parts test x [] h = absurd h
  in_filter-parts test x (y ∷ ys) h = by (in_filter-parts test x ys) (filter_cases (test y) x y (filter test ys) h)
    where
      by : (In x (filter test ys) → In x ys × (test x ≡ true)) → ((x ≡ y) × (test y ≡ true)) ⊎ In x (filter test ys) → In x (y ∷ ys) × (test x ≡ true)
      by later (inl (e, k)) = (inl e, ap test e ∙ k)
      by later (inr k) = (inr (later k).0, (later k).1)

module _ {A B : Type 0} where
  pub in_flat_map : (f : A → List B) (x : A) (z : B) (xs : List A) → In x xs → In z (f x) → In z (flat_map f xs)
  in_flat_map f x z [] h k = absurd h
  in_flat_map f x z (y ∷ ys) (inl e) k = in_append-left z (f y) (flat_map f ys) (subst (λ w. In z (f w)) e k)
  in_flat_map f x z (y ∷ ys) (inr h) k = in_append-right z (f y) (flat_map f ys) (in_flat_map f x z ys h k)

  pub in_flat_map-from : (f : A → List B) (z : B) (xs : List A) → In z (flat_map f xs) → (x : A) × In x xs × In z (f x)
  in_flat_map-from f z [] h = absurd h
  in_flat_map-from f z (y ∷ ys) h = by (in_flat_map-from f z ys) (in_append-cases z (f y) (flat_map f ys) h)
    where
      by : (In z (flat_map f ys) → (x : A) × In x ys × In z (f x)) → In z (f y) ⊎ In z (flat_map f ys) → (x : A) × In x (y ∷ ys) × In z (f x)
      by later (inl k) = (y, inl refl, k)
      by later (inr k) = let r = later k in (r.0, inr r.1, r.2)
