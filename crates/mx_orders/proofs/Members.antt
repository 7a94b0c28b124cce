-- Members of lists, by cases on the list: what a graph's lemmas leave.
use Rattle.std.proofs.Common.{◌≡◌, ℕ, suc, ◌≤◌, ◌<◌, arith, Bool, true, false, cond, ◌&&◌, inl, inr, List, [], ◌∷◌, map, filter, length, refl, sym, ap, ◌∙◌}
use Rattle.std.proofs.lemmas.Bool.{and_parts}
use Rattle.std.specs.List.{list_all}
use Rattle.mx_graph.proofs.Members.{in_filter-parts}
pub use Rattle.mx_orders.specs.Lists.{In, Distinct}

module _ {A : Type 0} where
  -- a test that all members pass
  pub list_all-in : (test : A → Bool) (xs : List A) → ((x : A) → In x xs → test x ≡ true) → list_all test xs ≡ true
  list_all-in test [] h = refl
  list_all-in test (x ∷ xs) h = λ i. h x (inl refl) i && list_all-in test xs (λ y k. h y (inr k)) i

  pub list_all-at : (test : A → Bool) (xs : List A) → list_all test xs ≡ true → (x : A) → In x xs → test x ≡ true
  list_all-at test [] h x k = absurd k
  list_all-at test (y ∷ ys) h x (inl e) = ap test e ∙ (and_parts (test y) (list_all test ys) h).0
  list_all-at test (y ∷ ys) h x (inr k) = list_all-at test ys ((and_parts (test y) (list_all test ys) h).1) x k

  filter_distinct-cons : (b : Bool) (y : A) (xs ys : List A) → ¬ In y xs → ((z : A) → In z ys → In z xs) → Distinct ys → Distinct (cond b (y ∷ ys) ys)
  filter_distinct-cons true y xs ys n w d = (λ k. n (w y k), d)
  filter_distinct-cons false y xs ys n w d = d

  pub filter-distinct : (test : A → Bool) (xs : List A) → Distinct xs → Distinct (filter test xs)
  filter-distinct test [] d = tt
  filter-distinct test (y ∷ ys) d = filter_distinct-cons (test y) y ys (filter test ys) d.0 (λ z k. (in_filter-parts test z ys k).0) (filter-distinct test ys d.1)

  filter_length-cons : (b : Bool) (y : A) (ys : List A) (n : ℕ) → length ys ≤ n → length (cond b (y ∷ ys) ys) ≤ suc n
  filter_length-cons true y ys n h = omega arith
  filter_length-cons false y ys n h = omega arith

  pub filter-length : (test : A → Bool) (xs : List A) → length (filter test xs) ≤ length xs
  filter-length test [] = omega arith
  filter-length test (y ∷ ys) = filter_length-cons (test y) y (filter test ys) (length ys) (filter-length test ys)

  filter_less-cons : (b : Bool) (y : A) (ys : List A) (n : ℕ) → length ys < n → length (cond b (y ∷ ys) ys) < suc n
  filter_less-cons true y ys n h = omega arith
  filter_less-cons false y ys n h = omega arith

  filter_less-here : (b : Bool) (y : A) (ys : List A) (n : ℕ) → b ≡ false → length ys ≤ n → length (cond b (y ∷ ys) ys) < suc n
  filter_less-here true y ys n e h = absurd (cc e)
  filter_less-here false y ys n e h = omega arith

  -- a filter that leaves out a member makes the list shorter
  pub filter-less : (test : A → Bool) (x : A) (xs : List A) → In x xs → test x ≡ false → length (filter test xs) < length xs
  filter-less test x [] h e = absurd h
  filter-less test x (y ∷ ys) (inl k) e = filter_less-here (test y) y (filter test ys) (length ys) (sym (ap test k) ∙ e) (filter-length test ys)
  filter-less test x (y ∷ ys) (inr h) e = filter_less-cons (test y) y (filter test ys) (length ys) (filter-less test x ys h e)

module _ {A B : Type 0} where
  pub in_map : (f : A → B) (x : A) (xs : List A) → In x xs → In (f x) (map f xs)
  in_map f x [] h = absurd h
  in_map f x (y ∷ ys) (inl e) = inl (ap f e)
  in_map f x (y ∷ ys) (inr h) = inr (in_map f x ys h)

  pub in_map-from : (f : A → B) (z : B) (xs : List A) → In z (map f xs) → (x : A) × In x xs × (z ≡ f x)
  in_map-from f z [] h = absurd h
  in_map-from f z (y ∷ ys) (inl e) = (y, inl refl, e)
  in_map-from f z (y ∷ ys) (inr h) = let r = in_map-from f z ys h in (r.0, inr r.1, r.2)
