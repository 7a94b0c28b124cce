-- What a stable sort by a total order gives is the sorted list.
use Rattle.std.proofs.Common.{◌≡◌, ℕ, ◌<◌, Bool, true, false, cond, inl, inr, List, [], ◌∷◌, map, length, slice_index_or, refl, sym, ap, subst, ◌∙◌, ◌&&◌, not, filter}
use Rattle.std.specs.declared.cmp.Ordering.{Ordering}
use Rattle.std.specs.declared.cmp.Ordering.TheVariants.{Less, Equal, Greater}
use Rattle.std.specs.Ordering.{is_gt, is_lt, ordering_reverse, ordering_then, nat_cmp}
use Rattle.std.specs.Cmp.{IsTotalOrder, upto, tied_itself, on_total, then_total, back_total, nat_cmp_total}
use Rattle.std.specs.Cmp.Lexicographic.{slice_cmp, lists_total}
use Rattle.std.specs.FinMap.Entries.{by_order}
use Rattle.std.specs.List.{All}
use Rattle.std.specs.List.Sorted.{ties, IsPermutation, IsSortedBy, IsStableBy}
use Rattle.std.proofs.lemmas.List.Sorted.{All-permutation}
use Rattle.std.proofs.lemmas.List.{length-map}
use Rattle.std.proofs.lemmas.List.Elements.{All-map}
use Rattle.mx_graph.specs.Record.{Row}
use Rattle.mx_graph.proofs.Members.{in_filter-parts}
use Rattle.mx_orders.specs.Mainline.{put_in_order, sorted}
use Rattle.mx_orders.proofs.Members.{In}
use Rattle.mx_orders.proofs.SortedLaws.{Rising, sorted-rising}
use Rattle.mx_orders.proofs.CountLemmas.{all-at, rising-sorted}
use Rattle.mx_receipt.specs.Receipt.{Kept, rows_of}
use Rattle.mx_room.specs.EventOrders.{IsListed, listed_id_rising, listed_depth_rising, listed_depth_falling}
use Rattle.mx_room.specs.Queries.{id_rising, depth_rising, depth_falling}
use Rattle.mx_room.specs.declared.queries.event_orders.Listed.{Listed}

module _ {A : Type 0} (cmp : A → A → Ordering) (o : IsTotalOrder cmp) where
  abbrev tie : A → A → Bool
  tie = ties (λ x y. is_lt (cmp x y))

  is_tie : Ordering → Bool
  is_tie r = not (is_lt r) && not (is_lt (ordering_reverse r))

  tie-is : (x y : A) → tie x y ≡ is_tie (cmp x y)
  unfolding is_tie
  tie-is x y = ap (λ r. not (is_lt (cmp x y)) && not (is_lt r)) (o.antisymm y x)

  tie-equal : (r : Ordering) → is_tie r ≡ true → r ≡ Equal
  unfolding is_tie
  tie-equal Less e = absurd (cc e)
  tie-equal Equal e = refl
  tie-equal Greater e = absurd (cc e)

  turned-equal : (r : Ordering) → r ≡ Equal → is_gt (ordering_reverse r) ≡ false
  turned-equal r e = ap (λ s. is_gt (ordering_reverse s)) e

  -- what ties with one element ties
  none-greater : (w x y : A) → tie w x ≡ true → tie w y ≡ true → is_gt (cmp x y) ≡ false
  none-greater w x y a b =
      upto o x w y
      (ap is_gt (o.antisymm x w) ∙ turned-equal (cmp w x) (tie-equal (cmp w x) (sym (tie-is w x) ∙ a)))
      (ap is_gt (tie-equal (cmp w y) (sym (tie-is w y) ∙ b)))

  -- ---- the sorted list keeps the order of what ties

  swapped : (a b : Bool) (x y : A) (zs : List A) → (a ≡ true → b ≡ true → ⊥) → cond b (y ∷ cond a (x ∷ zs) zs) (cond a (x ∷ zs) zs) ≡ cond a (x ∷ cond b (y ∷ zs) zs) (cond b (y ∷ zs) zs)
  swapped true true x y zs n = absurd (n refl refl)
  swapped true false x y zs n = refl
  swapped false true x y zs n = refl
  swapped false false x y zs n = refl

  put-stable : (w x : A) (ys : List A) → filter (tie w) (put_in_order cmp x ys) ≡ filter (tie w) (x ∷ ys)
  put-stable w x [] = refl
  put-stable w x (y ∷ ys) = by (cmp x y) refl (put-stable w x ys)
    where
      by : (r : Ordering) → cmp x y ≡ r → filter (tie w) (put_in_order cmp x ys) ≡ filter (tie w) (x ∷ ys) → filter (tie w) (by_order r (x ∷ y ∷ ys) (x ∷ y ∷ ys) (y ∷ put_in_order cmp x ys)) ≡ filter (tie w) (x ∷ y ∷ ys)
      by Less e k = refl
      by Equal e k = refl
      by Greater e k =
          ap (λ l. cond (tie w y) (y ∷ l) l) k
          ∙ swapped (tie w x) (tie w y) x y (filter (tie w) ys) (λ a b. absurd (let g : is_gt (cmp x y) ≡ false = none-greater w x y a b in let h : is_gt (cmp x y) ≡ true = ap is_gt e in cc (g, h)))

  sorted-stable : (w : A) (xs : List A) → filter (tie w) (sorted cmp xs) ≡ filter (tie w) xs
  sorted-stable w [] = refl
  sorted-stable w (x ∷ xs) = put-stable w x (sorted cmp xs) ∙ ap (λ l. cond (tie w x) (x ∷ l) l) (sorted-stable w xs)

  -- ---- one list in order has what ties in one order

  tie-self : (x : A) → tie x x ≡ true
  unfolding is_tie
  tie-self x = tie-is x x ∙ ap is_tie (tied_itself o x)

  kept-self : (x : A) (xs : List A) → filter (tie x) (x ∷ xs) ≡ x ∷ filter (tie x) xs
  kept-self x xs = ap (λ b. cond b (x ∷ filter (tie x) xs) (filter (tie x) xs)) (tie-self x)

  abbrev Alike : List A → List A → Type 0
  Alike xs ys = (w : A) → filter (tie w) xs ≡ filter (tie w) ys

  -- the first of one is a member of the other
  first-in : (x : A) (xs ys : List A) → Alike (x ∷ xs) ys → In x ys
  first-in x xs ys a = (in_filter-parts (tie x) x ys (subst (In x) (sym (kept-self x xs) ∙ a x) (inl refl))).0

  up_to : (x y : A) (ys : List A) → Rising cmp o (y ∷ ys) → In x (y ∷ ys) → is_gt (cmp y x) ≡ false
  up_to x y ys r (inl e) = ap (λ w. is_gt (cmp y w)) e ∙ ap is_gt (tied_itself o y)
  up_to x y ys r (inr k) = r.0 x k

  tied : (r s : Ordering) → r ≡ ordering_reverse s → is_gt r ≡ false → is_gt s ≡ false → is_tie r ≡ true
  unfolding is_tie
  tied r Less e h k = absurd (cc (e, h))
  tied r Equal e h k = ap is_tie e
  tied r Greater e h k = absurd (cc k)

  head_or : A → List A → A
  head_or d [] = d
  head_or d (x ∷ xs) = x

  rest_of : List A → List A
  rest_of [] = []
  rest_of (x ∷ xs) = xs

  dropped : (b : Bool) (x : A) (xs ys : List A) → cond b (x ∷ xs) xs ≡ cond b (x ∷ ys) ys → xs ≡ ys
  unfolding rest_of
  dropped true x xs ys e = ap rest_of e
  dropped false x xs ys e = e

  one-stable : (xs ys : List A) → Rising cmp o xs → Rising cmp o ys → Alike xs ys → xs ≡ ys
  unfolding head_or
  one-stable [] [] r s a = refl
  one-stable [] (y ∷ ys) r s a = absurd (first-in y ys [] (λ w. sym (a w)))
  one-stable (x ∷ xs) [] r s a = absurd (first-in x xs [] a)
  one-stable (x ∷ xs) (y ∷ ys) r s a =
      let t : tie x y ≡ true = tie-is x y ∙ tied (cmp x y) (cmp y x) (o.antisymm x y) (up_to y x xs r (first-in y ys (x ∷ xs) (λ w. sym (a w)))) (up_to x y ys s (first-in x xs (y ∷ ys) a)) in
      let e : x ≡ y = ap (head_or x) (sym (kept-self x xs) ∙ a x ∙ ap (λ b. cond b (y ∷ filter (tie x) ys) (filter (tie x) ys)) t) in
      let q : xs ≡ ys = one-stable xs ys r.1 s.1 (λ w. dropped (tie w x) x (filter (tie w) xs) (filter (tie w) ys) (a w ∙ ap (λ z. filter (tie w) (z ∷ ys)) (sym e))) in
      λ i. e i ∷ q i

  pub stable-sorted : (old new : List A) → IsSortedBy (λ x y. is_lt (cmp x y)) new → IsStableBy (λ x y. is_lt (cmp x y)) old new → new ≡ sorted cmp old
  stable-sorted old new s k = one-stable new (sorted cmp old) (rising-sorted cmp o new s) (sorted-rising cmp o old) (λ w. k w ∙ sym (sorted-stable w old))

-- ---- what is sorted by what was read of each element

module _ {A B : Type 0} (f : A → B) (P : A → Type 0) (cmp : A → A → Ordering) (by : B → B → Ordering) (agree : (x y : A) → P x → P y → cmp x y ≡ by (f x) (f y)) where
  abbrev Each : List A → Type 0
  Each [] = Unit {0}
  Each (x ∷ xs) = P x × Each xs

  each-put : (x : A) (ys : List A) → P x → Each ys → Each (put_in_order cmp x ys)
  each-put x [] p e = (p, tt)
  each-put x (y ∷ ys) p e = at (cmp x y) (each-put x ys p e.1)
    where
      at : (r : Ordering) → Each (put_in_order cmp x ys) → Each (by_order r (x ∷ y ∷ ys) (x ∷ y ∷ ys) (y ∷ put_in_order cmp x ys))
      at Less k = (p, e)
      at Equal k = (p, e)
      at Greater k = (e.0, k)

  each-sorted : (xs : List A) → Each xs → Each (sorted cmp xs)
  each-sorted [] e = tt
  each-sorted (x ∷ xs) e = each-put x (sorted cmp xs) e.0 (each-sorted xs e.1)

  map-put : (x : A) (ys : List A) → P x → Each ys → map f (put_in_order cmp x ys) ≡ put_in_order by (f x) (map f ys)
  map-put x [] p e = refl
  map-put x (y ∷ ys) p e =
      at (cmp x y) (map-put x ys p e.1)
      ∙ ap (λ r. by_order r (f x ∷ f y ∷ map f ys) (f x ∷ f y ∷ map f ys) (f y ∷ put_in_order by (f x) (map f ys))) (agree x y p e.0)
    where
      at : (r : Ordering) → map f (put_in_order cmp x ys) ≡ put_in_order by (f x) (map f ys) → map f (by_order r (x ∷ y ∷ ys) (x ∷ y ∷ ys) (y ∷ put_in_order cmp x ys)) ≡ by_order r (f x ∷ f y ∷ map f ys) (f x ∷ f y ∷ map f ys) (f y ∷ put_in_order by (f x) (map f ys))
      at Less k = refl
      at Equal k = refl
      at Greater k = ap (λ l. f y ∷ l) k

  map-sorted : (xs : List A) → Each xs → map f (sorted cmp xs) ≡ sorted by (map f xs)
  map-sorted [] e = refl
  map-sorted (x ∷ xs) e = map-put x (sorted cmp xs) e.0 (each-sorted xs e.1) ∙ ap (put_in_order by (f x)) (map-sorted xs e.1)

  each-of : (xs : List A) → ((x : A) → In x xs → P x) → Each xs
  each-of [] h = tt
  each-of (x ∷ xs) h = (h x (inl refl), each-of xs (λ y k. h y (inr k)))

  pub read-sorted : (xs : List A) → All P xs → map f (sorted cmp xs) ≡ sorted by (map f xs)
  read-sorted xs h = map-sorted xs (each-of xs (all-at P xs h))

-- ---- events in an order

pub id_rising-total : IsTotalOrder listed_id_rising
id_rising-total = on_total (λ (l : Listed). l.id.now) (lists_total nat_cmp_total)

pub depth_rising-total : IsTotalOrder listed_depth_rising
depth_rising-total = then_total (on_total (λ (l : Listed). l.depth) nat_cmp_total) id_rising-total

pub depth_falling-total : IsTotalOrder listed_depth_falling
depth_falling-total = then_total (back_total (on_total (λ (l : Listed). l.depth) nat_cmp_total)) id_rising-total

module _ (rows : List Row) where
  abbrev number : Listed → ℕ
  number l = l.number

  abbrev Agrees : (Listed → Listed → Ordering) → (ℕ → ℕ → Ordering) → Type 0
  Agrees cmp by = (a b : Listed) → IsListed rows a → IsListed rows b → cmp a b ≡ by a.number b.number

  pub id_rising-agrees : Agrees listed_id_rising (id_rising rows)
  id_rising-agrees a b k l = λ i. slice_cmp nat_cmp (k.id i) (l.id i)

  pub depth_rising-agrees : Agrees listed_depth_rising (depth_rising rows)
  depth_rising-agrees a b k l = λ i. ordering_then (nat_cmp (k.depth i) (l.depth i)) (slice_cmp nat_cmp (k.id i) (l.id i))

  pub depth_falling-agrees : Agrees listed_depth_falling (depth_falling rows)
  depth_falling-agrees a b k l = λ i. ordering_then (nat_cmp (l.depth i) (k.depth i)) (slice_cmp nat_cmp (k.id i) (l.id i))

  module _ (cmp : Listed → Listed → Ordering) (o : IsTotalOrder cmp) (by : ℕ → ℕ → Ordering) (agree : Agrees cmp by) where
    pub sorted-events : (xs : List ℕ) (old new : List Listed) → map number old ≡ xs → All (IsListed rows) old
        → IsSortedBy (λ x y. is_lt (cmp x y)) new → IsStableBy (λ x y. is_lt (cmp x y)) old new → map number new ≡ sorted by xs
    sorted-events xs old new e read s k =
        ap (map number) (stable-sorted cmp o old new s k) ∙ read-sorted number (IsListed rows) cmp by agree old read ∙ ap (sorted by) e

-- what is read of events that are below each number that those of a record are below
pub events-below : (kept : List Kept) (old new : List Listed) → All (IsListed (rows_of kept)) old → IsPermutation old new → All (λ p. p < length kept) (map (λ (l : Listed). l.number) new)
events-below kept old new read p =
    All-map (λ p. p < length kept) (λ (l : Listed). l.number) new
    (λ k d l. subst (λ n. (slice_index_or new k d).number < n) (length-map kept _) (All-permutation (IsListed (rows_of kept)) old new p read k d l).below)
