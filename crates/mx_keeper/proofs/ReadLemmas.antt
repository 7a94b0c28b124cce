-- Rows that are added at the next place.
use Rattle.std.proofs.Common.{◌≡◌, ℕ, ◌+◌, ◌<◌, ◌≤◌, pos, List, [], ◌∷◌, ◌++◌, length, Option, Some, None, option_map, option_and_then, append-nil, refl, sym, ap, subst, ◌∙◌, arith}
use Rattle.std.specs.declared.cmp.Ordering.TheVariants.{Less}
use Rattle.sqlite.specs.declared.types.Value.TheVariants.{Int}
use Rattle.std.proofs.lemmas.List.{append_assoc}
use Rattle.std.proofs.lemmas.Bool.Decides.{nat_tests}
use Rattle.std.proofs.lemmas.Int.{ints}
use Rattle.sqlite_value.specs.Order.{Row, column, value_cmp}
use Rattle.sqlite_value.proofs.OrderLemmas.{value_cmp-Int, value_cmp_total}
use Rattle.std.specs.List.{AllByRecursion}
use Rattle.sqlite_trees.specs.Tree.{put_row, rowid, IsAscending}
use Rattle.mx_keeper.specs.TableRows.{by_place, shown, read_from, read_rows}
use Rattle.std.specs.Cmp.{IsTotalOrder}
use Rattle.std.proofs.lemmas.Cmp.{on_total}
use Rattle.std.proofs.lemmas.List.Elements.{recursion_from_All, All-from_recursion}
use Rattle.std.proofs.lemmas.List.Sorted.{All-permutation}
use Rattle.sqlite_keyed.specs.Lists.{sort_by}
use Rattle.sqlite_keyed.proofs.SortLemmas.{IsPermutation-sort_by}
use Rattle.mx_keeper.proofs.SortedLemmas.{sort_last}

pub below : (a b : ℕ) → a < b → value_cmp (Int (pos a)) (Int (pos b)) ≡ Less
below a b h = value_cmp-Int (pos a) (pos b) ∙ grind (arith, ints, nat_tests)

pub place_total : IsTotalOrder by_place
place_total = on_total (λ r. column r 0) value_cmp_total

module _ {Kept : Type 0} where
  -- the parts of a list that was read
  pub parts : (p : Option Kept) (o : Option (List Kept)) (all : List Kept) → option_and_then (λ x. option_map (λ xs. x ∷ xs) o) p ≡ Some all
      → (x : Kept) × (xs : List Kept) × (p ≡ Some x) × (o ≡ Some xs) × (all ≡ x ∷ xs)
  parts None o all h = absurd cc
  parts (Some x) None all h = absurd cc
  parts (Some x) (Some xs) all h = (x, xs, refl, refl, cc)

  module _ (one : ℕ → Row → Option Kept) (placed : (n : ℕ) (r : Row) (x : Kept) → one n r ≡ Some x → rowid r ≡ Int (pos n)) where
    all_below : (rs : List Row) (n : ℕ) (all : List Kept) (new : Row) (m : ℕ) → read_from one n rs ≡ Some all → n + length all ≤ m → rowid new ≡ Int (pos m) → AllByRecursion (λ r. by_place r new ≡ Less) rs
    all_below [] n all new m h low at = tt
    all_below (r ∷ rs) n all new m h low at =
        let it = parts (one n r) (read_from one (n + 1) rs) all h in
        let here = placed n r it.0 it.2 in
        let long = ap length it.4 in
        let less : by_place r new ≡ Less = rw (here, at) (below n m (omega arith)) in
        (less, all_below rs (n + 1) it.1 new m it.3 (omega arith) at)

    pub reads_last : (rs : List Row) (n : ℕ) (all : List Kept) (new : Row) (x : Kept) → read_from one n rs ≡ Some all → one (n + length all) new ≡ Some x → read_from one n (rs ++ new ∷ []) ≡ Some (all ++ x ∷ [])
    reads_last [] n all new x h is =
        let none : all ≡ [] = cc in
        let at : n + length all ≡ n = omega (arith, ap length none) in
        let got : one n new ≡ Some x = subst (λ k. one k new ≡ Some x) at is in
        rw (got, none) refl
    reads_last (r ∷ rs) n all new x h is =
        let it = parts (one n r) (read_from one (n + 1) rs) all h in
        let next : n + length all ≡ (n + 1) + length it.1 = omega (arith, ap length it.4) in
        let more = reads_last rs (n + 1) it.1 new x it.3 (subst (λ k. one k new ≡ Some x) next is) in
        rw (it.2, more) (ap Some (ap (λ l. l ++ x ∷ []) (sym it.4)))

    all_above : (rs : List Row) (n : ℕ) (all : List Kept) (m : ℕ) (r : Row) → read_from one n rs ≡ Some all → m < n → rowid r ≡ Int (pos m) → AllByRecursion (λ x. by_place r x ≡ Less) rs
    all_above [] n all m r h less at = tt
    all_above (x ∷ xs) n all m r h less at =
        let it = parts (one n x) (read_from one (n + 1) xs) all h in
        let here = placed n x it.0 it.2 in
        let low : by_place r x ≡ Less = rw (at, here) (below m n less) in
        (low, all_above xs (n + 1) it.1 m r it.3 (omega arith) at)

    -- rows that read stand in the order of their places
    pub rises : (rs : List Row) (n : ℕ) (all : List Kept) → read_from one n rs ≡ Some all → IsAscending (λ a b. by_place a b ≡ Less) rs
    rises [] n all h = tt
    rises (x ∷ xs) n all h =
        let it = parts (one n x) (read_from one (n + 1) xs) all h in
        (all_above xs (n + 1) it.1 n x it.3 (omega arith) (placed n x it.0 it.2), rises xs (n + 1) it.1 it.3)

-- a row that is above all others is put behind them
put_last : (new : Row) (rs : List Row) → AllByRecursion (λ r. by_place r new ≡ Less) rs → put_row new rs ≡ rs ++ new ∷ []
put_last new [] all = refl
put_last new (r ∷ rs) all = rw (all.0, put_last new rs all.1) refl

module _ (columns : List ℕ) {Kept : Type 0} (one : ℕ → Row → Option Kept) (placed : (n : ℕ) (r : Row) (x : Kept) → one n r ≡ Some x → rowid r ≡ Int (pos n)) where
  -- one row more, at the next place
  pub one_more : (rs : List Row) (all : List Kept) (new : Row) (x : Kept) → read_rows columns one rs ≡ Some all → rowid new ≡ Int (pos (length all + 1)) → one (length all + 1) (shown columns new) ≡ Some x
      → read_rows columns one (put_row new rs) ≡ Some (all ++ x ∷ [])
  one_more rs all new x reads at is =
      let raw = λ (n : ℕ) (r : Row). one n (shown columns r) in
      let stands = λ (n : ℕ) (r : Row) (y : Kept) (h : raw n r ≡ Some y). placed n (shown columns r) y h in
      let sorted = sort_by by_place rs in
      let next : length all + 1 ≡ 1 + length all = omega arith in
      let low = all_below raw stands sorted 1 all new (length all + 1) reads (omega arith) at in
      let all_low = recursion_from_All (λ r. by_place r new ≡ Less) rs (All-permutation (λ r. by_place r new ≡ Less) sorted rs (IsPermutation-sort_by by_place place_total rs) (All-from_recursion (λ r. by_place r new ≡ Less) sorted low)) in
      let here : raw (1 + length all) new ≡ Some x = subst (λ k. raw k new ≡ Some x) next is in
      ap (read_rows columns one) (put_last new rs all_low) ∙ ap (read_from raw 1) (sort_last by_place new rs all_low) ∙ reads_last raw stands sorted 1 all new x reads here

-- a loop that reads row by row
module _ {Kept : Type 0} where
  pub begun : (o : Option (List Kept)) → option_map (λ more. [] ++ more) o ≡ o
  begun None = refl
  begun (Some xs) = refl

  module _ (one : ℕ → Row → Option Kept) (done : List Kept) (place : ℕ) where
    pub ended : option_map (λ more. done ++ more) (read_from one place []) ≡ Some done
    ended = ap Some (append-nil done)

    pub stopped : (r : Row) (rest : List Row) → one place r ≡ None → option_map (λ more. done ++ more) (read_from one place (r ∷ rest)) ≡ None
    stopped r rest none = rw none refl

    pub stepped : (r : Row) (rest : List Row) (x : Kept) → one place r ≡ Some x → option_map (λ more. (done ++ x ∷ []) ++ more) (read_from one (place + 1) rest) ≡ option_map (λ more. done ++ more) (read_from one place (r ∷ rest))
    stepped r rest x is = rw is (go (read_from one (place + 1) rest))
      where
        go : (o : Option (List Kept)) → option_map (λ more. (done ++ x ∷ []) ++ more) o ≡ option_map (λ more. done ++ more) (option_map (λ xs. x ∷ xs) o)
        go None = refl
        go (Some xs) = ap Some (append_assoc done (x ∷ []) xs)
