-- What the query of all rows shows, whatever stands in the table.
use Rattle.std.proofs.Common.{◌≡◌, ℕ, ◌-◌, ◌^◌, pos, List, [], ◌∷◌, map, flat_map, Bool, true, false, cond, nat_le, slice_get, unwrap_or, Option, None, Some, refl, sym, ap, ap₂, subst, ◌∙◌, Ordering, Less, Equal, Greater, ◌+◌, IsPermutation, IsSorted}
use Rattle.std.specs.List.{AllByRecursion}
use Rattle.std.specs.Ordering.{ordering_then}
use Rattle.std.proofs.lemmas.List.Elements.{recursion_from_All, All-from_recursion}
use Rattle.std.proofs.lemmas.List.Sorted.{All-permutation, IsPermutation-map, IsPermutation-trans}
use Rattle.sqlite.specs.declared.types.Value.TheVariants.{Int}
use Rattle.sqlite_value.specs.Order.{Row, column}
use Rattle.sqlite_trees.specs.Tree.{Trees, rowid, IsAscending}
use Rattle.sqlite.specs.Term.{eval_all, col}
use Rattle.sqlite_sql.specs.Query.{IsAnswer, output, output_cmp, Output}
use Rattle.sqlite_sql.proofs.QueryLemmas.{output_cmp_total}
use Rattle.sqlite.specs.Program.{overlay}
use Rattle.sqlite_keyed.specs.Lists.{sort_by}
use Rattle.sqlite_keyed.proofs.SortLemmas.{sorted_unique, sort_by-map, IsPermutation-sort_by}
use Rattle.sqlite_keyed.proofs.ListLemmas.{all-map, ascending-map, ascending_weaker}
use Rattle.mx_keeper.specs.Selecting.{query}
use Rattle.mx_keeper.specs.TableRows.{by_place, shown, read_from, read_rows}
use Rattle.mx_keeper.proofs.SortedLemmas.{sort_is}
use Rattle.mx_keeper.proofs.ReadLemmas.{place_total, rises}

-- trees over which no table is laid
no_overlay : (db : Trees) (tree : ℕ) → overlay db [] tree ≡ db tree
no_overlay db tree = go (nat_le (2 ^ 31) tree) (slice_get [] (tree - 2 ^ 31)) refl
  where
    go : (b : Bool) (o : Option (List Row)) → o ≡ None → unwrap_or (cond b o None) (db tree) ≡ db tree
    go true o none = ap (λ p. unwrap_or p (db tree)) none
    go false o none = refl

-- a shown row beside what it is sorted by
abbrev keyed : Row → Output
keyed v = (column v 0 ∷ [], v)

-- the cells in some columns
cells_are : (columns : List ℕ) (r : Row) → eval_all (map (λ n. col 1 n) columns) ([] ∷ r ∷ []) ≡ map (λ n. column r n) columns
cells_are [] r = refl
cells_are (n ∷ more) r = ap (λ cells. column r n ∷ cells) (cells_are more r)

rekeyed : (os : List Output) → AllByRecursion (λ o. o ≡ keyed o.1) os → os ≡ map keyed (map (λ o. o.1) os)
rekeyed [] all = refl
rekeyed (o ∷ os) all = ap₂ (λ x xs. x ∷ xs) all.0 (rekeyed os all.1)

then_same : (o : Ordering) → ordering_then o Equal ≡ o
then_same Less = refl
then_same Equal = refl
then_same Greater = refl

module _ (tree : ℕ) (columns : List ℕ) where
  abbrev cmp : Output → Output → Ordering
  cmp = output_cmp (query tree columns)

  all_keyed : (rs : List Row) → map (output (query tree columns)) (flat_map (λ r. ([] ∷ r ∷ []) ∷ []) rs) ≡ map (λ r. keyed (shown columns r)) rs
  all_keyed [] = refl
  all_keyed (r ∷ rs) = ap₂ (λ cells more. (column r 0 ∷ [], column r 0 ∷ cells) ∷ more) (cells_are columns r) (all_keyed rs)

  all_shown : (rs : List Row) → map (λ (o : Output). o.1) (map (λ r. keyed (shown columns r)) rs) ≡ map (shown columns) rs
  all_shown [] = refl
  all_shown (r ∷ rs) = ap (λ more. shown columns r ∷ more) (all_shown rs)

  same_cmp : (a b : Row) → cmp (keyed (shown columns a)) (keyed (shown columns b)) ≡ by_place a b
  same_cmp a b = then_same (by_place a b)

  less_keyed : (a b : Row) → by_place a b ≡ Less → cmp (keyed a) (keyed b) ≡ Less
  less_keyed a b h = rw h refl

module _ (tree : ℕ) (columns : List ℕ) {Kept : Type 0} (one : ℕ → Row → Option Kept) (placed : (n : ℕ) (r : Row) (x : Kept) → one n r ≡ Some x → rowid r ≡ Int (pos n)) where
  pub shown_reads : (rs : List Row) (n : ℕ) → read_from one n (map (shown columns) rs) ≡ read_from (λ place r. one place (shown columns r)) n rs
  shown_reads [] n = refl
  shown_reads (r ∷ rs) n = ap (λ o. Rattle.std.specs.Prelude.option_and_then (λ x. Rattle.std.specs.Prelude.option_map (λ xs. x ∷ xs) o) (one n (shown columns r))) (shown_reads rs (n + 1))

  module _ (rs : List Row) (os : List Output) (same : IsPermutation (map (λ r. keyed (shown columns r)) rs) os) (sorted : IsSorted (cmp tree columns) os) where
    from_read : (all : List Kept) → read_from one 1 (map (λ o. o.1) os) ≡ Some all → read_from one 1 (map (λ o. o.1) os) ≡ read_rows columns one rs
    from_read all h =
        let vs = map (λ (o : Output). o.1) os in
        let first = all-map (λ (o : Output). o ≡ keyed o.1) (λ r. keyed (shown columns r)) (λ r. refl) rs in
        let each = recursion_from_All (λ (o : Output). o ≡ keyed o.1) os (All-permutation (λ (o : Output). o ≡ keyed o.1) _ os same (All-from_recursion (λ (o : Output). o ≡ keyed o.1) _ first)) in
        let back = rekeyed os each in
        let strict : IsAscending (λ a b. cmp tree columns a b ≡ Less) os = subst (IsAscending (λ a b. cmp tree columns a b ≡ Less)) (sym back) (ascending-map (λ x y. cmp tree columns x y ≡ Less) keyed vs (ascending_weaker _ _ (less_keyed tree columns) vs (rises one placed vs 1 all h))) in
        let is : map (λ r. keyed (shown columns r)) (sort_by (λ a b. cmp tree columns (keyed (shown columns a)) (keyed (shown columns b))) rs) ≡ os = sym (sort_by-map (cmp tree columns) (λ r. keyed (shown columns r)) rs) ∙ sort_is (cmp tree columns) (output_cmp_total (query tree columns)) _ os strict same in
        let by : map (λ r. keyed (shown columns r)) (sort_by by_place rs) ≡ os = subst (λ c. map (λ r. keyed (shown columns r)) (sort_by c rs) ≡ os) (λ i a b. same_cmp tree columns a b i) is in
        ap (λ l. read_from one 1 (map (λ (o : Output). o.1) l)) (sym by) ∙ ap (read_from one 1) (all_shown tree columns (sort_by by_place rs)) ∙ shown_reads (sort_by by_place rs) 1

    from_table : (all : List Kept) → read_rows columns one rs ≡ Some all → read_from one 1 (map (λ o. o.1) os) ≡ read_rows columns one rs
    from_table all h =
        let ss = sort_by by_place rs in
        let up = rises (λ n r. one n (shown columns r)) (λ n r. placed n (shown columns r)) ss 1 all h in
        let strict = ascending-map (λ x y. cmp tree columns x y ≡ Less) (λ r. keyed (shown columns r)) ss (ascending_weaker _ _ (λ a b. less_keyed tree columns (shown columns a) (shown columns b)) ss up) in
        let permuted = IsPermutation-trans _ _ _ (IsPermutation-map (λ r. keyed (shown columns r)) _ _ (IsPermutation-sort_by by_place place_total rs)) same in
        let is : os ≡ map (λ r. keyed (shown columns r)) ss = sorted_unique (cmp tree columns) (output_cmp_total (query tree columns)) _ os strict permuted sorted in
        ap (λ l. read_from one 1 (map (λ (o : Output). o.1) l)) is ∙ ap (read_from one 1) (all_shown tree columns ss) ∙ shown_reads ss 1

    pub reads_alike : read_from one 1 (map (λ o. o.1) os) ≡ read_rows columns one rs
    reads_alike = go (read_from one 1 (map (λ o. o.1) os)) (read_rows columns one rs) refl refl
      where
        go : (a b : Option (List Kept)) → read_from one 1 (map (λ o. o.1) os) ≡ a → read_rows columns one rs ≡ b → read_from one 1 (map (λ o. o.1) os) ≡ read_rows columns one rs
        go None None p q = p ∙ sym q
        go (Some all) b p q = from_read all p
        go None (Some all) p q = from_table all q

  -- what an answer reads as is what the table reads as
  pub answer_reads : (db : Trees) (rows : List Row) → IsAnswer (query tree columns) (overlay db []) [] rows → read_from one 1 rows ≡ read_rows columns one (db tree)
  answer_reads db rows a =
      let rs = overlay db [] tree in
      let kept : a.kept ≡ map (λ r. keyed (shown columns r)) rs = a.distinct ∙ ap (map (output (query tree columns))) a.grouped ∙ all_keyed tree columns rs in
      ap (read_from one 1) a.shown ∙ reads_alike rs a.ordered (subst (λ k. IsPermutation k a.ordered) kept a.same) a.sorted ∙ ap (read_rows columns one) (no_overlay db tree)
