-- Two orders that agree on the elements of a list sort it alike.
use Rattle.std.proofs.Common.{◌≡◌, Bool, true, false, cond, not, ◌&&◌, ◌⊎◌, List, [], ◌∷◌, inl, inr, filter, fold, Some, refl, sym, ap, subst, ◌∙◌}
use Rattle.std.specs.Prelude.{unwrap_or}
use Rattle.std.specs.declared.cmp.Ordering.{Ordering}
use Rattle.std.specs.declared.cmp.Ordering.TheVariants.{Less, Equal, Greater}
use Rattle.std.specs.Ordering.{ord_min, ordering_then, is_lt}
use Rattle.std.specs.List.{list_all, reduce}
use Rattle.std.specs.Cmp.Lexicographic.{slice_cmp}
use Rattle.std.specs.FinMap.Entries.{by_order}
use Rattle.mx_graph.proofs.Members.{In, in_filter-parts, in_flat_map-from}
use Rattle.mx_orders.specs.PowerOrder.{insertions, permutations, is_topological, least, least_topological}
use Rattle.mx_orders.specs.Mainline.{put_in_order, sorted}
use Rattle.mx_orders.proofs.Permutations.{Within, beside}

module _ {A : Type 0} where
  abbrev pub AreAll : (A → Type 0) → List A → Type 0
  AreAll P xs = (x : A) → In x xs → P x

  -- two functions of two elements agree where both elements are of a kind
  abbrev pub Agree : {B : Type 0} → (A → Type 0) → (A → A → B) → (A → A → B) → Type 0
  Agree P f g = (x y : A) → P x → P y → f x y ≡ g x y

  later-all : (P : A → Type 0) (x : A) (xs : List A) → AreAll P (x ∷ xs) → AreAll P xs
  later-all P x xs h y m = h y (inr m)

  -- ---- tests

  filter-same : (P : A → Type 0) (f g : A → Bool) → ((x : A) → P x → f x ≡ g x) → (xs : List A) → AreAll P xs → filter f xs ≡ filter g xs
  filter-same P f g same [] h = refl
  filter-same P f g same (x ∷ xs) h = λ i. cond (same x (h x (inl refl)) i) (x ∷ filter-same P f g same xs (later-all P x xs h) i) (filter-same P f g same xs (later-all P x xs h) i)

  filter-all : (P : A → Type 0) (test : A → Bool) (xs : List A) → AreAll P xs → AreAll P (filter test xs)
  filter-all P test xs h x m = h x (in_filter-parts test x xs m).0

  list_all-same : (P : A → Type 0) (f g : A → Bool) → ((x : A) → P x → f x ≡ g x) → (xs : List A) → AreAll P xs → list_all f xs ≡ list_all g xs
  list_all-same P f g same [] h = refl
  list_all-same P f g same (x ∷ xs) h = λ i. same x (h x (inl refl)) i && list_all-same P f g same xs (later-all P x xs h) i

  topological-same : (P : A → Type 0) (before prior : A → A → Bool) → Agree P before prior → (xs : List A) → AreAll P xs → is_topological before xs ≡ is_topological prior xs
  topological-same P before prior same [] h = refl
  topological-same P before prior same (x ∷ xs) h = λ i.
      list_all-same P (λ y. not (before y x)) (λ y. not (prior y x)) (λ y p. ap not (same y x p (h x (inl refl)))) xs (later-all P x xs h) i
      && topological-same P before prior same xs (later-all P x xs h) i

  -- ---- permutations

  permutation-within : (xs zs : List A) → In zs (permutations xs) → Within zs xs
  permutation-within [] zs (inl e) z m = subst (λ ws. In z ws) e m
  permutation-within [] zs (inr h) z m = absurd h
  permutation-within (x ∷ xs) zs h z m = put (permutation-within xs) (in_flat_map-from (insertions x) zs (permutations xs) h)
    where
      put : ((ps : List A) → In ps (permutations xs) → Within ps xs) → (ps : List A) × In ps (permutations xs) × In zs (insertions x ps) → In z (x ∷ xs)
      put earlier r = by ((beside x r.0 zs r.2).no_other z m)
        where
          by : (z ≡ x) ⊎ In z r.0 → In z (x ∷ xs)
          by (inl e) = inl e
          by (inr k) = inr (earlier r.0 r.1 z k)

-- ---- the least of some values

module _ {B : Type 0} (Q : B → Type 0) (cmp other : B → B → Ordering) (same : Agree Q cmp other) where
  fold-same : (a : B) (bs : List B) → Q a → AreAll Q bs → fold (ord_min cmp) a bs ≡ fold (ord_min other) a bs
  fold-same a [] q h = refl
  fold-same a (b ∷ bs) q h =
      ap (λ c. fold (ord_min cmp) c bs) (λ i. cond (is_lt (same b a (h b (inl refl)) q i)) b a)
      ∙ fold-same (ord_min other a b) bs (by (is_lt (other b a))) (later-all Q b bs h)
    where
      by : (t : Bool) → Q (cond t b a)
      by true = h b (inl refl)
      by false = q

  reduce-same : (bs : List B) → AreAll Q bs → reduce (ord_min cmp) bs ≡ reduce (ord_min other) bs
  reduce-same [] h = refl
  reduce-same (b ∷ bs) h = ap Some (fold-same b bs (h b (inl refl)) (later-all Q b bs h))

module _ {B : Type 0} (Q : B → Type 0) (cmp : B → B → Ordering) where
  fold-has : (a : B) (bs : List B) → Q a → AreAll Q bs → Q (fold (ord_min cmp) a bs)
  fold-has a [] q h = q
  fold-has a (b ∷ bs) q h = fold-has (ord_min cmp a b) bs (by (is_lt (cmp b a))) (later-all Q b bs h)
    where
      by : (t : Bool) → Q (cond t b a)
      by true = h b (inl refl)
      by false = q

-- ---- what the elements have, those of the sorted list have

module _ {A : Type 0} (P : A → Type 0) (cmp : A → A → Ordering) where
  front-all : (x : A) (xs : List A) → P x → AreAll P xs → AreAll P (x ∷ xs)
  front-all x xs p h z (inl e) = subst P (sym e) p
  front-all x xs p h z (inr m) = h z m

  put-all : (x : A) (xs : List A) → P x → AreAll P xs → AreAll P (put_in_order cmp x xs)
  put-all x [] p h = front-all x [] p h
  put-all x (y ∷ ys) p h = by (put-all x ys p (later-all P y ys h)) (cmp x y)
    where
      by : AreAll P (put_in_order cmp x ys) → (o : Ordering) → AreAll P (by_order o (x ∷ y ∷ ys) (x ∷ y ∷ ys) (y ∷ put_in_order cmp x ys))
      by later Less = front-all x (y ∷ ys) p h
      by later Equal = front-all x (y ∷ ys) p h
      by later Greater = front-all y (put_in_order cmp x ys) (h y (inl refl)) later

  pub sorted-all : (xs : List A) → AreAll P xs → AreAll P (sorted cmp xs)
  sorted-all [] h = h
  sorted-all (x ∷ xs) h = put-all x (sorted cmp xs) (h x (inl refl)) (sorted-all xs (later-all P x xs h))

  least-all : (lists : List (List A)) → AreAll (AreAll P) lists → AreAll P (least cmp lists)
  least-all [] h x m = absurd m
  least-all (xs ∷ lists) h x m = fold-has (AreAll P) (slice_cmp cmp) xs lists (h xs (inl refl)) (later-all (AreAll P) xs lists h) x m

  pub topological-all : (before : A → A → Bool) (xs : List A) → AreAll P xs → AreAll P (least_topological before cmp xs)
  topological-all before xs h =
      least-all (filter (is_topological before) (permutations xs))
      (filter-all (AreAll P) (is_topological before) (permutations xs) (λ zs m z k. h z (permutation-within xs zs m z k)))

module _ {A : Type 0} (P : A → Type 0) (cmp other : A → A → Ordering) (same : Agree P cmp other) where
  -- ---- sorting

  put-same : (x : A) (xs : List A) → P x → AreAll P xs → put_in_order cmp x xs ≡ put_in_order other x xs
  put-same x [] p h = refl
  put-same x (y ∷ ys) p h = λ i. by_order (same x y p (h y (inl refl)) i) (x ∷ y ∷ ys) (x ∷ y ∷ ys) (y ∷ put-same x ys p (later-all P y ys h) i)

  pub sorted-same : (xs : List A) → AreAll P xs → sorted cmp xs ≡ sorted other xs
  sorted-same [] h = refl
  sorted-same (x ∷ xs) h =
      put-same x (sorted cmp xs) (h x (inl refl)) (sorted-all P cmp xs (later-all P x xs h))
      ∙ ap (put_in_order other x) (sorted-same xs (later-all P x xs h))

  -- ---- the least list

  lists-same : (xs ys : List A) → AreAll P xs → AreAll P ys → slice_cmp cmp xs ys ≡ slice_cmp other xs ys
  lists-same [] [] h k = refl
  lists-same [] (y ∷ ys) h k = refl
  lists-same (x ∷ xs) [] h k = refl
  lists-same (x ∷ xs) (y ∷ ys) h k = λ i. ordering_then (same x y (h x (inl refl)) (k y (inl refl)) i) (lists-same xs ys (later-all P x xs h) (later-all P y ys k) i)

  pub least_topological-same : (before prior : A → A → Bool) → Agree P before prior → (xs : List A) → AreAll P xs → least_topological before cmp xs ≡ least_topological prior other xs
  least_topological-same before prior agree xs h =
      ap (least cmp) (filter-same (AreAll P) (is_topological before) (is_topological prior) (topological-same P before prior agree) (permutations xs) each)
      ∙ ap (λ o. unwrap_or o []) (reduce-same (AreAll P) (slice_cmp cmp) (slice_cmp other) lists-same (filter (is_topological prior) (permutations xs)) (filter-all (AreAll P) (is_topological prior) (permutations xs) each))
    where
      each : AreAll (AreAll P) (permutations xs)
      each zs m z k = h z (permutation-within xs zs m z k)
