-- The first elements of a sorted list, where those that pass a test come before all others.
use Rattle.std.proofs.Common.{◌≡◌, ℕ, suc, ◌+◌, ◌<◌, ◌≤◌, Bool, true, false, cond, ◌&&◌, not, List, [], ◌∷◌, ◌++◌, length, filter, drop, refl, sym, ap, ◌∙◌, arith, length-append}
use Rattle.std.specs.Prelude.{take, All, IsTrue}
use Rattle.std.specs.List.{list_all}
use Rattle.std.specs.declared.cmp.Ordering.{Ordering}
use Rattle.std.specs.declared.cmp.Ordering.TheVariants.{Less, Equal, Greater}
use Rattle.std.specs.FinMap.Entries.{by_order}
use Rattle.std.proofs.lemmas.List.{take-append-le}
use Rattle.std.specs.Ordering.{nat_cmp, ordering_then}
use Rattle.std.specs.Cmp.{nat_cmp_is}
use Rattle.std.specs.Cmp.Lexicographic.{slice_cmp}
use Rattle.std.proofs.lemmas.Bool.{leb-false, leb-true}
use Rattle.std.proofs.lemmas.List.{take-append-drop, length-drop, take_all}
use Rattle.std.proofs.lemmas.List.Elements.{All-head, All-tail, filter-append}
use Rattle.mx_pdu.specs.Event.{depth_of}
use Rattle.mx_graph.specs.Record.{Row, row, event}
use Rattle.mx_orders.specs.Mainline.{put_in_order, sorted}
use Rattle.mx_room.specs.EventOrders.{is_as_deep}
use Rattle.mx_room.specs.Queries.{depth_falling}

module _ {A : Type 0} (cmp : A → A → Ordering) where
  abbrev put_by : Ordering → A → A → List A → List A → List A
  put_by r x y ys zs = by_order r (x ∷ y ∷ ys) (x ∷ y ∷ ys) (y ∷ zs)

  length-put : (x : A) (ys : List A) → length (put_in_order cmp x ys) ≡ suc (length ys)
  length-put x [] = refl
  length-put x (y ∷ ys) = by (cmp x y) (length-put x ys)
    where
      by : (r : Ordering) → length (put_in_order cmp x ys) ≡ suc (length ys) → length (put_by r x y ys (put_in_order cmp x ys)) ≡ suc (length (y ∷ ys))
      by Less k = refl
      by Equal k = refl
      by Greater k = ap suc k

  pub length-sorted : (xs : List A) → length (sorted cmp xs) ≡ length xs
  length-sorted [] = refl
  length-sorted (x ∷ xs) = length-put x (sorted cmp xs) ∙ ap suc (length-sorted xs)

  module _ (test : A → Bool) (before : (x y : A) → test x ≡ true → test y ≡ false → cmp x y ≡ Less) (after : (x y : A) → test x ≡ false → test y ≡ true → cmp x y ≡ Greater) where
    abbrev fails : A → Bool
    fails x = not (test x)

    swap : (a b c : Bool) → (a && (b && c)) ≡ (b && (a && c))
    swap true b c = refl
    swap false true c = refl
    swap false false c = refl

    all-put : (p : A → Bool) (x : A) (ys : List A) → list_all p (put_in_order cmp x ys) ≡ (p x && list_all p ys)
    all-put p x [] = refl
    all-put p x (y ∷ ys) = by (cmp x y) (all-put p x ys)
      where
        by : (r : Ordering) → list_all p (put_in_order cmp x ys) ≡ (p x && list_all p ys) → list_all p (put_by r x y ys (put_in_order cmp x ys)) ≡ (p x && (p y && list_all p ys))
        by Less k = refl
        by Equal k = refl
        by Greater k = ap (λ b. p y && b) k ∙ swap (p y) (p x) (list_all p ys)

    all-sorted : (p : A → Bool) (xs : List A) → list_all p (sorted cmp xs) ≡ list_all p xs
    all-sorted p [] = refl
    all-sorted p (x ∷ xs) = all-put p x (sorted cmp xs) ∙ ap (λ b. p x && b) (all-sorted p xs)

    all-filter : (p : A → Bool) (xs : List A) → list_all p (filter p xs) ≡ true
    all-filter p [] = refl
    all-filter p (x ∷ xs) = by (p x) refl (all-filter p xs)
      where
        by : (b : Bool) → p x ≡ b → list_all p (filter p xs) ≡ true → list_all p (cond b (x ∷ filter p xs) (filter p xs)) ≡ true
        by true e k = ap (λ b. b && list_all p (filter p xs)) e ∙ k
        by false e k = k

    both : (a b : Bool) → (a && b) ≡ true → (a ≡ true) × (b ≡ true)
    both true true e = (refl, refl)
    both true false e = absurd (cc e)
    both false b e = absurd (cc e)

    -- one that passes comes among those that pass
    put-among : (x : A) (ls rs : List A) → test x ≡ true → list_all fails rs ≡ true → put_in_order cmp x (ls ++ rs) ≡ put_in_order cmp x ls ++ rs
    put-among x [] [] e f = refl
    put-among x [] (b ∷ rs) e f = ap (λ r. put_by r x b rs (put_in_order cmp x rs)) (before x b e (failing (test b) (both (fails b) (list_all fails rs) f).0))
      where
        failing : (t : Bool) → not t ≡ true → t ≡ false
        failing true g = absurd (cc g)
        failing false g = refl
    put-among x (a ∷ ls) rs e f = by (cmp x a) (put-among x ls rs e f)
      where
        by : (r : Ordering) → put_in_order cmp x (ls ++ rs) ≡ put_in_order cmp x ls ++ rs → put_by r x a (ls ++ rs) (put_in_order cmp x (ls ++ rs)) ≡ put_by r x a ls (put_in_order cmp x ls) ++ rs
        by Less k = refl
        by Equal k = refl
        by Greater k = ap (λ l. a ∷ l) k

    -- one that does not comes behind them
    put-behind : (x : A) (ls rs : List A) → test x ≡ false → list_all test ls ≡ true → put_in_order cmp x (ls ++ rs) ≡ ls ++ put_in_order cmp x rs
    put-behind x [] rs e f = refl
    put-behind x (a ∷ ls) rs e f =
        let parts = both (test a) (list_all test ls) f in
        ap (λ r. put_by r x a (ls ++ rs) (put_in_order cmp x (ls ++ rs))) (after x a e parts.0) ∙ ap (λ l. a ∷ l) (put-behind x ls rs e parts.1)

    sorted-apart : (xs : List A) → sorted cmp xs ≡ sorted cmp (filter test xs) ++ sorted cmp (filter fails xs)
    sorted-apart [] = refl
    sorted-apart (x ∷ xs) = ap (put_in_order cmp x) (sorted-apart xs) ∙ by (test x) refl
      where
        passing : List A
        passing = sorted cmp (filter test xs)

        failing : List A
        failing = sorted cmp (filter fails xs)

        by : (b : Bool) → test x ≡ b → put_in_order cmp x (passing ++ failing) ≡ sorted cmp (cond b (x ∷ filter test xs) (filter test xs)) ++ sorted cmp (cond (not b) (x ∷ filter fails xs) (filter fails xs))
        by true e = put-among x passing failing e (all-sorted fails (filter fails xs) ∙ all-filter fails xs)
        by false e = put-behind x passing failing e (all-sorted test (filter test xs) ∙ all-filter test xs)

    -- where enough pass, the others are not looked at
    pub first-sorted : (most : ℕ) (xs : List A) → most ≤ length (filter test xs) → take most (sorted cmp (filter test xs)) ≡ take most (sorted cmp xs)
    first-sorted most xs enough =
        let long : length (sorted cmp (filter test xs)) ≡ length (filter test xs) = length-sorted (filter test xs) in
        sym (take-append-le most (sorted cmp (filter test xs)) (sorted cmp (filter fails xs)) (omega (arith, enough, long)))
        ∙ ap (take most) (sym (sorted-apart xs))

-- ---- events by depth

pub filter-all : (test : ℕ → Bool) (xs : List ℕ) → All (λ x. IsTrue (test x)) xs → filter test xs ≡ xs
filter-all test [] h = refl
filter-all test (x ∷ xs) h =
    ap (λ b. cond b (x ∷ filter test xs) (filter test xs)) (All-head (λ y. IsTrue (test y)) x xs h)
    ∙ ap (λ l. x ∷ l) (filter-all test xs (All-tail (λ y. IsTrue (test y)) x xs h))

-- so many of the last ones pass
enough-pass : (test : ℕ → Bool) (most : ℕ) (xs : List ℕ) (n : ℕ) → n + most ≡ length xs → All (λ x. IsTrue (test x)) (drop n xs) → most ≤ length (filter test xs)
enough-pass test most xs n e h =
    let parts : filter test xs ≡ filter test (take n xs) ++ drop n xs =
    ap (filter test) (sym (take-append-drop n xs)) ∙ filter-append test (take n xs) (drop n xs) ∙ ap (λ l. filter test (take n xs) ++ l) (filter-all test (drop n xs) h) in
    let long : length (filter test xs) ≡ length (filter test (take n xs)) + length (drop n xs) = ap (λ (l : List ℕ). length l) parts ∙ length-append (filter test (take n xs)) (drop n xs) in
    omega (arith, long, e, length-drop n xs)

module _ (rows : List Row) (depth : ℕ) where
  deeper : (x y : ℕ) → is_as_deep rows depth x ≡ true → is_as_deep rows depth y ≡ false → depth_falling rows x y ≡ Less
  deeper x y a b =
      let high : depth ≤ depth_of (event rows x) = leb-true depth (depth_of (event rows x)) a in
      let low : depth_of (event rows y) < depth = leb-false depth (depth_of (event rows y)) b in
      ap (λ r. ordering_then r (slice_cmp nat_cmp (row rows x).id (row rows y).id)) (sym (nat_cmp_is (depth_of (event rows y)) (depth_of (event rows x)) Less (omega (arith, high, low))))

  less_deep : (x y : ℕ) → is_as_deep rows depth x ≡ false → is_as_deep rows depth y ≡ true → depth_falling rows x y ≡ Greater
  less_deep x y a b =
      let low : depth_of (event rows x) < depth = leb-false depth (depth_of (event rows x)) a in
      let high : depth ≤ depth_of (event rows y) = leb-true depth (depth_of (event rows y)) b in
      ap (λ r. ordering_then r (slice_cmp nat_cmp (row rows x).id (row rows y).id)) (sym (nat_cmp_is (depth_of (event rows y)) (depth_of (event rows x)) Greater (omega (arith, high, low))))

  -- where enough are so deep, the others are not looked at
  pub enough-deep : (most : ℕ) (xs : List ℕ) → most ≤ length (filter (is_as_deep rows depth) xs) → take most (sorted (depth_falling rows) (filter (is_as_deep rows depth) xs)) ≡ take most (sorted (depth_falling rows) xs)
  enough-deep = first-sorted (depth_falling rows) (is_as_deep rows depth) deeper less_deep

  pub deepest-is : (most : ℕ) (xs : List ℕ) (n : ℕ) → n + most ≡ length xs → All (λ x. IsTrue (is_as_deep rows depth x)) (drop n xs)
      → take most (sorted (depth_falling rows) (filter (is_as_deep rows depth) xs)) ≡ take most (sorted (depth_falling rows) xs)
  deepest-is most xs n e h = enough-deep most xs (enough-pass (is_as_deep rows depth) most xs n e h)

-- few events are all taken
pub few-taken : (rows : List Row) (most : ℕ) (xs : List ℕ) → length xs ≤ most → sorted (depth_falling rows) xs ≡ take most (sorted (depth_falling rows) xs)
few-taken rows most xs l =
    sym (take_all most (sorted (depth_falling rows) xs) (let long : length (sorted (depth_falling rows) xs) ≡ length xs = length-sorted (depth_falling rows) xs in omega (arith, long, l)))
