-- The least topological permutation: it is one, it is below every other, nothing else is, and what stands first in it.
use Rattle.std.proofs.Common.{◌≡◌, ℕ, zero, suc, ◌≤◌, ◌<◌, Bool, true, false, cond, not, ◌&&◌, ◌⊎◌, inl, inr, List, [], ◌∷◌, filter, fold, length, refl, sym, ap, subst, ◌∙◌, arith}
use Rattle.std.proofs.lemmas.Bool.{and_parts, cases_lt}
use Rattle.std.specs.declared.cmp.Ordering.{Ordering}
use Rattle.std.specs.declared.cmp.Ordering.TheVariants.{Less, Equal, Greater}
use Rattle.std.specs.Ordering.{is_gt, is_lt, ord_min, ordering_then, ordering_reverse}
use Rattle.std.specs.Cmp.{IsTotalOrder, upto, tied_itself}
use Rattle.std.specs.Cmp.Lexicographic.{slice_cmp, lists_total}
use Rattle.mx_orders.specs.PowerOrder.{permutations, is_topological, least, least_topological}
use Rattle.mx_graph.proofs.Members.{in_filter, in_filter-parts}
use Rattle.mx_orders.proofs.Members.{In, Distinct, list_all-in, list_all-at}
use Rattle.mx_orders.proofs.Permutations.{Permutes, Within, cut, cut-length, cut-within, cut-cases, cut-distinct, cut-gone, permutations-permute, permutes-permutations}

-- ---- the least of a list of values

module _ {B : Type 0} {R : B → B → Ordering} (o : IsTotalOrder R) where
  -- x comes no later than y
  abbrev pub UpTo : B → B → Type 0
  UpTo x y = is_gt (R x y) ≡ false

  pub up_to_itself : (x : B) → UpTo x x
  up_to_itself x = ap is_gt (tied_itself o x)

  turn_lt : (r : Ordering) → is_gt (ordering_reverse r) ≡ is_lt r
  turn_lt Less = refl
  turn_lt Equal = refl
  turn_lt Greater = refl

  lt_not_gt : (r : Ordering) → is_lt r ≡ true → is_gt r ≡ false
  lt_not_gt Less e = refl
  lt_not_gt Equal e = refl
  lt_not_gt Greater e = absurd (cc e)

  -- the lesser of two is one of them, and up to both
  min_cases : (a b : B) (t : Bool) → is_lt (R b a) ≡ t → ((cond t b a ≡ a) ⊎ (cond t b a ≡ b)) × UpTo (cond t b a) a × UpTo (cond t b a) b
  min_cases a b true e = (inr refl, lt_not_gt (R b a) e, up_to_itself b)
  min_cases a b false e = (inl refl, up_to_itself a, ap is_gt (o.antisymm a b) ∙ turn_lt (R b a) ∙ e)

  pub fold_min-in : (a : B) (ls : List B) → In (fold (ord_min R) a ls) (a ∷ ls)
  fold_min-in a [] = inl refl
  fold_min-in a (b ∷ ls) = by ((min_cases a b (is_lt (R b a)) refl).0) (fold_min-in (ord_min R a b) ls)
    where
      by : (ord_min R a b ≡ a) ⊎ (ord_min R a b ≡ b) → In (fold (ord_min R) (ord_min R a b) ls) (ord_min R a b ∷ ls) → In (fold (ord_min R) (ord_min R a b) ls) (a ∷ b ∷ ls)
      by (inl e) (inl k) = inl (k ∙ e)
      by (inr e) (inl k) = inr (inl (k ∙ e))
      by c (inr k) = inr (inr k)

  pub fold_min-least : (a : B) (ls : List B) (x : B) → In x (a ∷ ls) → UpTo (fold (ord_min R) a ls) x
  fold_min-least a [] x (inl e) = subst (λ w. UpTo a w) (sym e) (up_to_itself a)
  fold_min-least a [] x (inr h) = absurd h
  fold_min-least a (b ∷ ls) x h = by (min_cases a b (is_lt (R b a)) refl) (λ w. fold_min-least (ord_min R a b) ls w) h
    where
      m : B
      m = ord_min R a b

      by : ((m ≡ a) ⊎ (m ≡ b)) × UpTo m a × UpTo m b → ((w : B) → In w (m ∷ ls) → UpTo (fold (ord_min R) m ls) w) → In x (a ∷ b ∷ ls) → UpTo (fold (ord_min R) m ls) x
      by c later (inl e) = upto o _ m x (later m (inl refl)) (subst (λ w. UpTo m w) (sym e) c.1)
      by c later (inr (inl e)) = upto o _ m x (later m (inl refl)) (subst (λ w. UpTo m w) (sym e) c.2)
      by c later (inr (inr k)) = later x (inr k)

-- ---- orderings of a list

-- cmp tells the members of a list apart
abbrev pub TellsApart : {A : Type 0} → (A → A → Ordering) → List A → Type 0
TellsApart {A} cmp xs = (x y : A) → In x xs → In y xs → cmp x y ≡ Equal → x ≡ y

-- no member has to stand before x
pub record IsReady {A : Type 0} (before : A → A → Bool) (xs : List A) (x : A) : Type 0 where
  pub member : In x xs
  pub free : (y : A) → In y xs → before y x ≡ false

-- of the members that are ready, x is the least
pub record IsNext {A : Type 0} (before : A → A → Bool) (cmp : A → A → Ordering) (xs : List A) (x : A) : Type 0 where
  pub ready : IsReady before xs x
  pub first : (y : A) → IsReady before xs y → is_gt (cmp x y) ≡ false

-- ys is xs without x
pub record IsRest {A : Type 0} (xs : List A) (x : A) (ys : List A) : Type 0 where
  pub distinct : Distinct ys
  pub within : Within ys xs
  pub gone : ¬ In x ys
  pub whole : (z : A) → In z xs → (z ≡ x) ⊎ In z ys

module _ {A : Type 0} (before : A → A → Bool) where
  -- a permutation in which each element stands after those that have to stand before it
  pub record IsOrdering (xs zs : List A) : Type 0 where
    pub permutes : Permutes xs zs
    pub topological : is_topological before zs ≡ true

  not_false : (b : Bool) → not b ≡ true → b ≡ false
  not_false true e = absurd (cc e)
  not_false false e = refl

  from_false : (b : Bool) → b ≡ false → not b ≡ true
  from_false true e = absurd (cc e)
  from_false false e = refl

  both : (a b : Bool) → a ≡ true → b ≡ true → (a && b) ≡ true
  both a b e k = λ i. e i && k i

  pub rest-cut : (x : A) (xs : List A) (h : In x xs) → Distinct xs → IsRest xs x (cut x xs h)
  rest-cut x xs h d = record { distinct = cut-distinct x xs h d; within = cut-within x xs h; gone = cut-gone x xs h d; whole = cut-cases x xs h }

  pub ordering-cons : (xs : List A) (x : A) (ys zs : List A) → IsReady before xs x → IsRest xs x ys → IsOrdering ys zs → IsOrdering xs (x ∷ zs)
  ordering-cons xs x ys zs r s p = record {
    permutes = record { distinct = (λ k. s.gone (p.permutes.within x k), p.permutes.distinct); within = within; whole = λ z k. whole z (s.whole z k) };
    topological = both _ _ (list_all-in (λ y. not (before y x)) zs (λ y k. from_false (before y x) (r.free y (s.within y (p.permutes.within y k))))) p.topological;
  }
    where
      within : Within (x ∷ zs) xs
      within z (inl e) = subst (λ w. In w xs) (sym e) r.member
      within z (inr k) = s.within z (p.permutes.within z k)

      whole : (z : A) → (z ≡ x) ⊎ In z ys → In z (x ∷ zs)
      whole z (inl e) = inl e
      whole z (inr k) = inr (p.permutes.whole z k)

  pub ordering-first : (xs : List A) (x : A) (zs : List A) → before x x ≡ false → IsOrdering xs (x ∷ zs) → IsReady before xs x
  ordering-first xs x zs n p = record { member = p.permutes.within x (inl refl); free = λ y k. free y (p.permutes.whole y k) }
    where
      free : (y : A) → In y (x ∷ zs) → before y x ≡ false
      free y (inl e) = ap (λ w. before w x) e ∙ n
      free y (inr k) = not_false (before y x) (list_all-at (λ w. not (before w x)) zs ((and_parts _ _ p.topological).0) y k)

  pub ordering-rest : (xs : List A) (x : A) (ys zs : List A) → IsRest xs x ys → IsOrdering xs (x ∷ zs) → IsOrdering ys zs
  ordering-rest xs x ys zs s p = record {
    permutes = record { distinct = p.permutes.distinct.1; within = λ z k. within z k (s.whole z (p.permutes.within z (inr k))); whole = λ z k. whole z k (p.permutes.whole z (s.within z k)) };
    topological = (and_parts _ _ p.topological).1;
  }
    where
      within : (z : A) → In z zs → (z ≡ x) ⊎ In z ys → In z ys
      within z k (inl e) = absurd (p.permutes.distinct.0 (subst (λ w. In w zs) e k))
      within z k (inr m) = m

      whole : (z : A) → In z ys → In z (x ∷ zs) → In z zs
      whole z k (inl e) = absurd (s.gone (subst (λ w. In w ys) e k))
      whole z k (inr m) = m

  -- ---- where what stands before is of lower rank, there is an ordering

  module _ (rank : A → ℕ) (rising : (x y : A) → before x y ≡ true → rank x < rank y) where
    no_cycle : (x : A) → before x x ≡ false
    no_cycle x = by (before x x) (λ e. rising x x e)
      where
        by : (b : Bool) → (b ≡ true → rank x < rank x) → b ≡ false
        by true h = absurd (below (h refl))
          where
            below : rank x < rank x → ⊥
            below k = omega arith
        by false h = refl

    pub lowest : (x : A) (xs : List A) → (m : A) × In m (x ∷ xs) × ((y : A) → In y (x ∷ xs) → rank m ≤ rank y)
    lowest x [] = (x, inl refl, λ y k. at y k)
      where
        at : (y : A) → In y (x ∷ []) → rank x ≤ rank y
        at y (inl e) = let k : rank y ≡ rank x = ap rank e in omega arith
        at y (inr h) = absurd h
    lowest x (y ∷ ys) = by (lowest y ys) (cases_lt (rank ((lowest y ys).0)) (rank x))
      where
        by : (r : (m : A) × In m (y ∷ ys) × ((z : A) → In z (y ∷ ys) → rank m ≤ rank z)) → (rank r.0 < rank x) ⊎ (rank x ≤ rank r.0) → (m : A) × In m (x ∷ y ∷ ys) × ((z : A) → In z (x ∷ y ∷ ys) → rank m ≤ rank z)
        by r (inl h) = (r.0, inr r.1, at)
          where
            at : (z : A) → In z (x ∷ y ∷ ys) → rank r.0 ≤ rank z
            at z (inl e) = let k : rank z ≡ rank x = ap rank e in omega arith
            at z (inr k) = r.2 z k
        by r (inr h) = (x, inl refl, at)
          where
            at : (z : A) → In z (x ∷ y ∷ ys) → rank x ≤ rank z
            at z (inl e) = let k : rank z ≡ rank x = ap rank e in omega arith
            at z (inr k) = let l : rank r.0 ≤ rank z = r.2 z k in omega arith

    pub lowest-ready : (m : A) (xs : List A) → In m xs → ((y : A) → In y xs → rank m ≤ rank y) → IsReady before xs m
    lowest-ready m xs h low = record { member = h; free = λ y k. by y k (before y m) (λ e. rising y m e) }
      where
        by : (y : A) → In y xs → (b : Bool) → (b ≡ true → rank y < rank m) → b ≡ false
        by y k true r = absurd (below y (low y k) (r refl))
          where
            below : (y : A) → rank m ≤ rank y → rank y < rank m → ⊥
            below y l n = omega arith
        by y k false r = refl

    pub some_ordering : (n : ℕ) (xs : List A) → length xs ≤ n → Distinct xs → (zs : List A) × IsOrdering xs zs
    some_ordering n [] h d = ([], record { permutes = record { distinct = tt; within = λ z k. k; whole = λ z k. k }; topological = refl })
    some_ordering zero (x ∷ xs) h d = absurd (omega arith)
    some_ordering (suc n) (x ∷ xs) h d =
        let m = lowest x xs in
        let shorter : suc (length (cut m.0 (x ∷ xs) m.1)) ≡ suc (length xs) = cut-length m.0 (x ∷ xs) m.1 in
        let r = some_ordering n (cut m.0 (x ∷ xs) m.1) (omega arith) (cut-distinct m.0 (x ∷ xs) m.1 d) in
        (m.0 ∷ r.0, ordering-cons (x ∷ xs) m.0 (cut m.0 (x ∷ xs) m.1) r.0 (lowest-ready m.0 (x ∷ xs) m.1 m.2) (rest-cut m.0 (x ∷ xs) m.1 d) r.1)

    -- ---- the least of the orderings

    module _ (cmp : A → A → Ordering) (o : IsTotalOrder cmp) where
      abbrev candidates : List A → List (List A)
      candidates xs = filter (is_topological before) (permutations xs)

      candidate : (xs zs : List A) → Distinct xs → IsOrdering xs zs → In zs (candidates xs)
      candidate xs zs d p = in_filter (is_topological before) zs (permutations xs) (permutes-permutations xs zs d p.permutes) p.topological

      from_candidate : (xs zs : List A) → Distinct xs → In zs (candidates xs) → IsOrdering xs zs
      from_candidate xs zs d h =
          let r = in_filter-parts (is_topological before) zs (permutations xs) h in
          record { permutes = permutations-permute xs zs d r.0; topological = r.1 }

      least-in : (ls : List (List A)) (z : List A) → In z ls → In (least cmp ls) ls
      least-in [] z h = absurd h
      least-in (l ∷ ls) z h = fold_min-in (lists_total o) l ls

      least-least : (ls : List (List A)) (z : List A) → In z ls → UpTo (lists_total o) (least cmp ls) z
      least-least [] z h = absurd h
      least-least (l ∷ ls) z h = fold_min-least (lists_total o) l ls z h

      pub least-ordering : (xs : List A) → Distinct xs → IsOrdering xs (least_topological before cmp xs)
      least-ordering xs d =
          let r = some_ordering (length xs) xs (omega arith) d in
          from_candidate xs _ d (least-in (candidates xs) r.0 (candidate xs r.0 d r.1))

      pub least-up_to : (xs zs : List A) → Distinct xs → IsOrdering xs zs → UpTo (lists_total o) (least_topological before cmp xs) zs
      least-up_to xs zs d p = least-least (candidates xs) zs (candidate xs zs d p)

      -- ---- and no other is

      then_equal : (r s : Ordering) → ordering_then r s ≡ Equal → (r ≡ Equal) × (s ≡ Equal)
      then_equal Less s e = (e, absurd (cc e))
      then_equal Equal s e = (refl, e)
      then_equal Greater s e = (e, absurd (cc e))

      tied_lists : (xs ys zs : List A) → TellsApart cmp xs → Within ys xs → Within zs xs → slice_cmp cmp ys zs ≡ Equal → ys ≡ zs
      tied_lists xs [] [] t h k e = refl
      tied_lists xs [] (z ∷ zs) t h k e = absurd (cc e)
      tied_lists xs (y ∷ ys) [] t h k e = absurd (cc e)
      tied_lists xs (y ∷ ys) (z ∷ zs) t h k e =
          let r = then_equal (cmp y z) (slice_cmp cmp ys zs) e in
          let p : y ≡ z = t y z (h y (inl refl)) (k z (inl refl)) r.0 in
          let q : ys ≡ zs = tied_lists xs ys zs t (λ w m. h w (inr m)) (λ w m. k w (inr m)) r.1 in
          λ i. p i ∷ q i

      squeezed : (r s : Ordering) → r ≡ ordering_reverse s → is_gt r ≡ false → is_gt s ≡ false → r ≡ Equal
      squeezed r Less e h k = absurd (cc (e, h))
      squeezed r Equal e h k = e
      squeezed r Greater e h k = absurd (cc k)

      pub one_least : (xs ys zs : List A) → TellsApart cmp xs → IsOrdering xs ys → IsOrdering xs zs → UpTo (lists_total o) ys zs → UpTo (lists_total o) zs ys → ys ≡ zs
      one_least xs ys zs t p q h k = tied_lists xs ys zs t p.permutes.within q.permutes.within (squeezed (slice_cmp cmp ys zs) (slice_cmp cmp zs ys) ((lists_total o).antisymm ys zs) h k)

      up_to_cons : (x l : A) (ls ms : List A) (r : Ordering) → cmp x l ≡ r → is_gt r ≡ false → (r ≡ Equal → UpTo (lists_total o) ms ls) → is_gt (ordering_then r (slice_cmp cmp ms ls)) ≡ false
      up_to_cons x l ls ms Less e h k = refl
      up_to_cons x l ls ms Equal e h k = k refl
      up_to_cons x l ls ms Greater e h k = h

      next-up_to : (xs ys zs : List A) (x : A) → TellsApart cmp xs → Distinct xs → IsNext before cmp xs x → IsRest xs x ys → IsOrdering xs zs → UpTo (lists_total o) (x ∷ least_topological before cmp ys) zs
      next-up_to xs ys [] x t d n s p = absurd (p.permutes.whole x n.ready.member)
      next-up_to xs ys (z ∷ zs) x t d n s p =
          let r = ordering-first xs z zs (no_cycle z) p in
          up_to_cons x z zs (least_topological before cmp ys) (cmp x z) refl (n.first z r)
          (λ e. let same : x ≡ z = t x z n.ready.member r.member e in
          least-up_to ys zs s.distinct (ordering-rest xs x ys zs s (subst (λ w. IsOrdering xs (w ∷ zs)) (sym same) p)))

      -- the least topological permutation begins with the least of those that are ready, and goes on with that of the rest
      pub least_topological-next : (xs ys : List A) (x : A) → TellsApart cmp xs → Distinct xs → IsNext before cmp xs x → IsRest xs x ys → least_topological before cmp xs ≡ x ∷ least_topological before cmp ys
      least_topological-next xs ys x t d n s =
          let p = ordering-cons xs x ys (least_topological before cmp ys) n.ready s (least-ordering ys s.distinct) in
          one_least xs _ _ t (least-ordering xs d) p (least-up_to xs _ d p) (next-up_to xs ys _ x t d n s (least-ordering xs d))

      -- ---- the order in which the elements are given does not matter

      ordering-permutes : (xs ys zs : List A) → Permutes xs ys → IsOrdering ys zs → IsOrdering xs zs
      ordering-permutes xs ys zs p q = record {
        permutes = record { distinct = q.permutes.distinct; within = λ z k. p.within z (q.permutes.within z k); whole = λ z k. q.permutes.whole z (p.whole z k) };
        topological = q.topological;
      }

      pub least_topological-permutes : (xs ys : List A) → TellsApart cmp xs → Distinct xs → Permutes xs ys → least_topological before cmp xs ≡ least_topological before cmp ys
      least_topological-permutes xs ys t d p =
          let back : Permutes ys xs = record { distinct = d; within = p.whole; whole = p.within } in
          let a = least-ordering xs d in
          let b = least-ordering ys p.distinct in
          let c = ordering-permutes xs ys (least_topological before cmp ys) p b in
          one_least xs _ _ t a c (least-up_to xs _ d c) (least-up_to ys _ p.distinct (ordering-permutes ys xs (least_topological before cmp xs) back a))
