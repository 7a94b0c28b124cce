-- Stored snapshots: what stands at a place, and what more of them, fewer, and more trees leave.
use Rattle.std.proofs.Common.{◌≡◌, ℕ, zero, suc, ◌+◌, ◌-◌, ◌^◌, ◌<◌, ◌≤◌, cond, length, get_or, ◌++◌, List, [], ◌∷◌, Some, None, take, drop, map, refl, sym, ap, subst, ◌∙◌, ◌⊎◌, inl, inr, arith}
use Rattle.std.specs.Prelude.{Option, Result, Ok, Err, OnErr, slice_get, IfSome, unwrap_or}
use Rattle.std.specs.List.{All}
use Rattle.std.specs.FinMap.Entries.{find}
use Rattle.std.specs.Ordering.{is_eq, nat_cmp}
use Rattle.std.proofs.lemmas.Option.{slice_get_read, slice_get_within}
use Rattle.std.proofs.lemmas.List.{get_or_append_left, get_or-map, get_or-take, length-map, map-append, take-append-drop, take-map}
use Rattle.mx_states.specs.declared.trees.key_trees.KeyTree.{KeyTree}
use Rattle.mx_states.specs.declared.trees.stored_snapshots.Stored.{Stored}
use Rattle.mx_states.specs.KeyTrees.{AreLower, IsLonger, at_key, empty, kept_at}
use Rattle.mx_states.specs.SnapshotEntries.{changed, snapshot}
use Rattle.mx_states.specs.StoredSnapshots.{AllSound, IsSound, snapshot_of, snapshots_of, step_of, trees_at}
use Rattle.mx_states.proofs.KeyTreeLemmas.{at-longer, longer, within-more}
use Rattle.mx_states.proofs.ListedLemmas.{listed-find, listed-is, listed-same, listed-sorted}
use Rattle.mx_states.proofs.SnapshotEntryLemmas.{Sorted, cmp-above, sorted-changed, find-changed}

-- ---- at a place

pub there : (ss : List Stored) (i : ℕ) (s : Stored) → i < length ss → s ≡ get_or ss i s → slice_get ss i ≡ Some s
there ss i s l e = slice_get_read ss (length ss) i s refl l e

pub sound-at : (trees : List KeyTree) (ss : List Stored) (i : ℕ) (s : Stored) → AllSound trees ss → slice_get ss i ≡ Some s → IsSound trees ss i s
sound-at trees ss i s h g = subst (λ o. IfSome o (IsSound trees ss i)) g (h.each i)

pub snapshot-at : (trees : List KeyTree) (ss : List Stored) (i : ℕ) (s : Stored) → i < length ss → s ≡ get_or ss i s → snapshot (snapshots_of trees ss) i ≡ snapshot_of trees s
snapshot-at trees ss i s l e = get_or-map (snapshot_of trees) ss i s [] l ∙ ap (snapshot_of trees) (sym e)

-- what is found is what stands in the tree
pub find-in : (trees : List KeyTree) (ss : List Stored) (i : ℕ) (s : Stored) (q : ℕ) → IsSound trees ss i s → find nat_cmp q (snapshot_of trees s) ≡ at_key trees s.tree q
find-in trees ss i s q h = listed-find (at_key trees s.tree) 0 s.keys q (omega arith) (λ l. h.bounded q (omega arith))

-- what it was made from
pub step-at : (trees : List KeyTree) (ss : List Stored) (i : ℕ) (s : Stored) (parent : ℕ) (cs : List (ℕ × Option ℕ)) → AllSound trees ss → i < length ss → s ≡ get_or ss i s → step_of s ≡ Some (parent, cs)
    → record { meant : snapshot (snapshots_of trees ss) i ≡ changed cs (snapshot (snapshots_of trees ss) parent); below : parent < i }
step-at trees ss i s parent cs h l e is =
    let told = subst (λ o. IfSome o (λ step. (step.0 < i) × (snapshot_of trees s ≡ changed step.1 (snapshot (snapshots_of trees ss) step.0)))) is (sound-at trees ss i s h (there ss i s l e)).step in
    record { meant = snapshot-at trees ss i s l e ∙ told.1; below = told.0 }

-- ---- other trees that say the same

map-same : {A B : Type 0} (f g : A → B) (xs : List A) → ((i : ℕ) → IfSome (slice_get xs i) (λ x. f x ≡ g x)) → map f xs ≡ map g xs
map-same f g [] h = refl
map-same f g (x ∷ xs) h = ap (λ y. y ∷ map f xs) (h zero) ∙ ap (λ ys. g x ∷ ys) (map-same f g xs (λ i. h (suc i)))

abbrev SaySame : List KeyTree → List KeyTree → Stored → Type 0
SaySame trees others s = (s.trees ≤ length others) × ((q : ℕ) → at_key others s.tree q ≡ at_key trees s.tree q)

if-some : {A : Type 0} (P Q : A → Type 0) (o : Option A) → ((x : A) → P x → Q x) → IfSome o P → IfSome o Q
if-some P Q None f h = tt
if-some P Q (Some x) f h = f x h

-- in a place where something stands
if-there : {A : Type 0} (P Q : A → Type 0) (o : Option A) → ((x : A) → o ≡ Some x → P x → Q x) → IfSome o P → IfSome o Q
if-there P Q None f h = tt
if-there P Q (Some x) f h = f x refl h

snapshot-same : (trees others : List KeyTree) (s : Stored) → SaySame trees others s → snapshot_of others s ≡ snapshot_of trees s
snapshot-same trees others s h = listed-same (at_key others s.tree) (at_key trees s.tree) 0 s.keys h.1

pub snapshots-same : (trees others : List KeyTree) (ss : List Stored) → ((i : ℕ) → IfSome (slice_get ss i) (SaySame trees others)) → snapshots_of others ss ≡ snapshots_of trees ss
snapshots-same trees others ss h =
    map-same (snapshot_of others) (snapshot_of trees) ss (λ i. if-some (SaySame trees others) (λ s. snapshot_of others s ≡ snapshot_of trees s) (slice_get ss i) (λ s k. snapshot-same trees others s k) (h i))

pub sound-same : (trees others : List KeyTree) (ss : List Stored) → AreLower others → ((i : ℕ) → IfSome (slice_get ss i) (SaySame trees others)) → AllSound trees ss → AllSound others ss
sound-same trees others ss lower same h = record { lower = lower; each = λ i. by i (slice_get ss i) (same i) (h.each i) }
  where
    all : snapshots_of others ss ≡ snapshots_of trees ss
    all = snapshots-same trees others ss same

    by : (i : ℕ) (o : Option Stored) → IfSome o (SaySame trees others) → IfSome o (IsSound trees ss i) → IfSome o (IsSound others ss i)
    by i None k g = tt
    by i (Some s) k g = record {
      tree = g.tree;
      within = k.0;
      few = g.few;
      bounded = λ q l. k.1 q ∙ g.bounded q l;
      step = if-some (λ step. (step.0 < i) × (snapshot_of trees s ≡ changed step.1 (snapshot (snapshots_of trees ss) step.0))) (λ step. (step.0 < i) × (snapshot_of others s ≡ changed step.1 (snapshot (snapshots_of others ss) step.0))) (step_of s)
          (λ step m. (m.0, snapshot-same trees others s k ∙ m.1 ∙ ap (λ maps. changed step.1 (snapshot maps step.0)) (sym all))) g.step;
      earlier = g.earlier;
    }

say-longer : (trees others : List KeyTree) (ss : List Stored) → AllSound trees ss → IsLonger trees others → (i : ℕ) → IfSome (slice_get ss i) (SaySame trees others)
say-longer trees others ss h more i =
    if-some (IsSound trees ss i) (SaySame trees others) (slice_get ss i)
    (λ s g. (
      omega (arith, g.within, longer trees others more),
      λ q. at-longer trees others s.tree (q + 1) h.lower (omega (arith, g.tree, g.within)) more,
    )) (h.each i)

pub snapshots-longer : (trees others : List KeyTree) (ss : List Stored) → AllSound trees ss → IsLonger trees others → snapshots_of others ss ≡ snapshots_of trees ss
snapshots-longer trees others ss h more = snapshots-same trees others ss (say-longer trees others ss h more)

pub sound-longer : (trees others : List KeyTree) (ss : List Stored) → AllSound trees ss → AreLower others → IsLonger trees others → AllSound others ss
sound-longer trees others ss h lower more = sound-same trees others ss lower (say-longer trees others ss h more) h

-- ---- one snapshot more

get-before_last : {X : Type 0} (xs : List X) (x : X) (i : ℕ) → i < length xs → slice_get (xs ++ x ∷ []) i ≡ slice_get xs i
get-before_last [] x i h = absurd (omega arith)
get-before_last (y ∷ xs) x zero h = refl
get-before_last (y ∷ xs) x (suc i) h = get-before_last xs x i (omega arith)

snapshot-push : (trees : List KeyTree) (ss : List Stored) (s : Stored) (i : ℕ) → i < length ss → snapshot (snapshots_of trees (ss ++ s ∷ [])) i ≡ snapshot (snapshots_of trees ss) i
snapshot-push trees ss s i l =
    ap (λ maps. snapshot maps i) (map-append (snapshot_of trees) ss (s ∷ [])) ∙ get_or_append_left (snapshots_of trees ss) (snapshot_of trees s ∷ []) [] i (omega (arith, length-map ss (snapshot_of trees)))

is-sound-push : (trees : List KeyTree) (ss : List Stored) (s : Stored) (i : ℕ) (t : Stored) → i ≤ length ss → IsSound trees ss i t → IsSound trees (ss ++ s ∷ []) i t
is-sound-push trees ss s i t l g = record {
  tree = g.tree;
  within = g.within;
  few = g.few;
  bounded = g.bounded;
  step = if-some (λ step. (step.0 < i) × (snapshot_of trees t ≡ changed step.1 (snapshot (snapshots_of trees ss) step.0))) (λ step. (step.0 < i) × (snapshot_of trees t ≡ changed step.1 (snapshot (snapshots_of trees (ss ++ s ∷ [])) step.0))) (step_of t)
      (λ step m. (m.0, m.1 ∙ ap (changed step.1) (sym (snapshot-push trees ss s step.0 (omega (arith, m.0)))))) g.step;
  earlier = λ other k. subst (λ o. IfSome o (λ u. u.trees ≤ t.trees)) (sym (get-before_last ss s other (omega arith))) (g.earlier other k);
}

-- at each place of xs ++ x ∷ [] stands what stood there, or x, or nothing
by_place : {X : Type 0} (xs : List X) (x : X) (P : ℕ → Option X → Type 0) → ((i : ℕ) → i < length xs → P i (slice_get xs i)) → P (length xs) (Some x) → ((i : ℕ) → P i None) → (i : ℕ) → P i (slice_get (xs ++ x ∷ []) i)
by_place [] x P before last past zero = last
by_place [] x P before last past (suc i) = past (suc i)
by_place (y ∷ xs) x P before last past zero = before zero (omega arith)
by_place (y ∷ xs) x P before last past (suc i) = by_place xs x (λ j o. P (suc j) o) (λ j l. before (suc j) (omega arith)) last (λ j. past (suc j)) i

pub sound-push : (trees : List KeyTree) (ss : List Stored) (s : Stored) → AllSound trees ss → IsSound trees ss (length ss) s → AllSound trees (ss ++ s ∷ [])
sound-push trees ss s h k = record {
  lower = h.lower;
  each = by_place ss s (λ i o. IfSome o (IsSound trees (ss ++ s ∷ []) i)) (λ i l. if-some (IsSound trees ss i) (IsSound trees (ss ++ s ∷ []) i) (slice_get ss i) (λ t g. is-sound-push trees ss s i t (omega arith) g) (h.each i))
      (is-sound-push trees ss s (length ss) s (omega arith) k) (λ i. tt);
}

pub snapshots-push : (trees : List KeyTree) (ss : List Stored) (s : Stored) → snapshots_of trees (ss ++ s ∷ []) ≡ snapshots_of trees ss ++ snapshot_of trees s ∷ []
snapshots-push trees ss s = map-append (snapshot_of trees) ss (s ∷ [])

-- ---- fewer snapshots

take_get : {X : Type 0} (n : ℕ) (xs : List X) (i : ℕ) → i < n → slice_get (take n xs) i ≡ slice_get xs i
take_get zero xs i l = absurd (omega arith)
take_get (suc n) [] i l = refl
take_get (suc n) (x ∷ xs) zero l = refl
take_get (suc n) (x ∷ xs) (suc i) l = take_get n xs i (omega arith)

take_none : {X : Type 0} (n : ℕ) (xs : List X) (i : ℕ) → n ≤ i → slice_get (take n xs) i ≡ None
take_none zero xs i l = refl
take_none (suc n) [] i l = refl
take_none (suc n) (x ∷ xs) zero l = absurd (omega arith)
take_none (suc n) (x ∷ xs) (suc i) l = take_none n xs i (omega arith)

snapshot-take : (trees : List KeyTree) (n : ℕ) (ss : List Stored) (i : ℕ) → i < n → snapshot (snapshots_of trees (take n ss)) i ≡ snapshot (snapshots_of trees ss) i
snapshot-take trees n ss i l = ap (λ maps. snapshot maps i) (sym (take-map (snapshot_of trees) n ss)) ∙ get_or-take n (snapshots_of trees ss) i [] l

is-sound-take : (trees : List KeyTree) (n : ℕ) (ss : List Stored) (i : ℕ) (t : Stored) → i < n → IsSound trees ss i t → IsSound trees (take n ss) i t
is-sound-take trees n ss i t l g = record {
  tree = g.tree;
  within = g.within;
  few = g.few;
  bounded = g.bounded;
  step = if-some (λ step. (step.0 < i) × (snapshot_of trees t ≡ changed step.1 (snapshot (snapshots_of trees ss) step.0))) (λ step. (step.0 < i) × (snapshot_of trees t ≡ changed step.1 (snapshot (snapshots_of trees (take n ss)) step.0))) (step_of t)
      (λ step m. (m.0, m.1 ∙ ap (changed step.1) (sym (snapshot-take trees n ss step.0 (omega (arith, m.0)))))) g.step;
  earlier = λ other k. subst (λ o. IfSome o (λ u. u.trees ≤ t.trees)) (sym (take_get n ss other (omega arith))) (g.earlier other k);
}

nat_cases : (a b : ℕ) → (a < b) ⊎ (b ≤ a)
nat_cases a b = grind arith

pub sound-take : (trees : List KeyTree) (n : ℕ) (ss : List Stored) → AllSound trees ss → AllSound trees (take n ss)
sound-take trees n ss h = record { lower = h.lower; each = λ i. by i (nat_cases i n) }
  where
    by : (i : ℕ) → (i < n) ⊎ (n ≤ i) → IfSome (slice_get (take n ss) i) (IsSound trees (take n ss) i)
    by i (inl l) = subst (λ o. IfSome o (IsSound trees (take n ss) i)) (sym (take_get n ss i l)) (if-some (IsSound trees ss i) (IsSound trees (take n ss) i) (slice_get ss i) (λ t g. is-sound-take trees n ss i t l g) (h.each i))
    by i (inr l) = subst (λ o. IfSome o (IsSound trees (take n ss) i)) (sym (take_none n ss i l)) tt

-- ---- no more trees than they need

pub last-trees : (ss : List Stored) (n : ℕ) (d : Stored) → length ss ≡ n + 1 → (get_or ss n d).trees ≡ trees_at ss
last-trees [] n d e = absurd (omega arith)
last-trees (s ∷ []) n d e = let k : n ≡ zero = omega arith in ap (λ m. (get_or (s ∷ []) m d).trees) k
last-trees (s ∷ t ∷ ss) zero d e = absurd (omega arith)
last-trees (s ∷ t ∷ ss) (suc n) d e = last-trees (t ∷ ss) n d (omega arith)

pub trees_at-last : (ss : List Stored) (i : ℕ) (s : Stored) → length ss ≡ i + 1 → s ≡ get_or ss i s → s.trees ≡ trees_at ss
trees_at-last ss i s l e = ap (λ (t : Stored). t.trees) e ∙ last-trees ss i s l

-- none needs more than the last one has
trees-most : (trees : List KeyTree) (ss : List Stored) (i : ℕ) (s : Stored) → AllSound trees ss → slice_get ss i ≡ Some s → s.trees ≤ trees_at ss
trees-most trees ss i s h g = by (nat_cases (i + 1) (length ss))
  where
    within : i < length ss
    within = slice_get_within ss i s g

    last : (n : ℕ) → n + 1 ≡ length ss → i < n → (o : Option Stored) → slice_get ss n ≡ o → s.trees ≤ trees_at ss
    last n l k None e = absurd (let here : slice_get ss n ≡ Some (get_or ss n s) = slice_get_read ss (length ss) n (get_or ss n s) refl (omega arith) (get-again ss n s) in let same : None ≡ Some (get_or ss n s) = sym e ∙ here in cc)
      where
        get-again : (xs : List Stored) (j : ℕ) (d : Stored) → get_or xs j d ≡ get_or xs j (get_or xs j d)
        get-again [] j d = refl
        get-again (x ∷ xs) zero d = refl
        get-again (x ∷ xs) (suc j) d = get-again xs j d
    last n l k (Some t) e =
        let sound = sound-at trees ss n t h e in
        let below : s.trees ≤ t.trees = subst (λ o. IfSome o (λ u. u.trees ≤ t.trees)) g (sound.earlier i k) in
        let is : t.trees ≡ trees_at ss = ap (λ (u : Stored). u.trees) (sym (get_or_is ss n t s e)) ∙ last-trees ss n s (omega arith) in
        omega arith
      where
        get_or_is : (xs : List Stored) (j : ℕ) (x d : Stored) → slice_get xs j ≡ Some x → get_or xs j d ≡ x
        get_or_is [] j x d e = absurd (cc e)
        get_or_is (y ∷ xs) zero x d e = cc e
        get_or_is (y ∷ xs) (suc j) x d e = get_or_is xs j x d e

    by : (i + 1 < length ss) ⊎ (length ss ≤ i + 1) → s.trees ≤ trees_at ss
    by (inl l) = last (length ss - 1) (omega arith) (omega arith) (slice_get ss (length ss - 1)) refl
    by (inr l) =
        let e : s.trees ≡ trees_at ss = ap (λ (u : Stored). u.trees) (sym (get_or_same ss i s g)) ∙ last-trees ss i s (omega (arith, within)) in
        omega arith
      where
        get_or_same : (xs : List Stored) (j : ℕ) (x : Stored) → slice_get xs j ≡ Some x → get_or xs j x ≡ x
        get_or_same [] j x e = absurd (cc e)
        get_or_same (y ∷ xs) zero x e = cc e
        get_or_same (y ∷ xs) (suc j) x e = get_or_same xs j x e

lower-take : (n : ℕ) (trees : List KeyTree) → AreLower trees → AreLower (take n trees)
lower-take n trees h i = by (nat_cases i n)
  where
    past : (m : ℕ) (ts : List KeyTree) (j : ℕ) → m ≤ j → kept_at (take m ts) j ≡ empty
    past zero ts j l = refl
    past (suc m) [] j l = refl
    past (suc m) (t ∷ ts) zero l = absurd (omega arith)
    past (suc m) (t ∷ ts) (suc j) l = past m ts j (omega arith)

    by : (i < n) ⊎ (n ≤ i) → ((kept_at (take n trees) i).even ≤ i) × ((kept_at (take n trees) i).odd ≤ i)
    by (inl l) = subst (λ (t : KeyTree). (t.even ≤ i) × (t.odd ≤ i)) (sym (get_or-take n trees i empty l)) (h i)
    by (inr l) = subst (λ (t : KeyTree). (t.even ≤ i) × (t.odd ≤ i)) (sym (past n trees i l)) (omega arith, omega arith)

say-cut : (trees : List KeyTree) (ss : List Stored) → AllSound trees ss → (i : ℕ) → IfSome (slice_get ss i) (SaySame trees (take (trees_at ss) trees))
say-cut trees ss h i =
    if-there (IsSound trees ss i) (SaySame trees (take (trees_at ss) trees)) (slice_get ss i)
    (λ s e g.
    let most = trees-most trees ss i s h e in
    let here : s.trees ≤ length (take (trees_at ss) trees) = taken (trees_at ss) trees s.trees most g.within in (
      here,
      λ q.
          sym (ap (λ ts. at_key ts s.tree q) (sym (take-append-drop (trees_at ss) trees))
          ∙ within-more (q + 1) (take (trees_at ss) trees) (drop (trees_at ss) trees) s.tree (q + 1) (lower-take (trees_at ss) trees h.lower) (omega (arith, g.tree, here))),
    )) (h.each i)
  where
    taken : {X : Type 0} (n : ℕ) (xs : List X) (k : ℕ) → k ≤ n → k ≤ length xs → k ≤ length (take n xs)
    taken n xs zero l m = omega arith
    taken zero xs (suc k) l m = absurd (omega arith)
    taken (suc n) [] (suc k) l m = absurd (omega arith)
    taken (suc n) (x ∷ xs) (suc k) l m = let r = taken n xs k (omega arith) (omega arith) in omega arith

pub snapshots-cut : (trees : List KeyTree) (ss : List Stored) → AllSound trees ss → snapshots_of (take (trees_at ss) trees) ss ≡ snapshots_of trees ss
snapshots-cut trees ss h = snapshots-same trees (take (trees_at ss) trees) ss (say-cut trees ss h)

pub sound-cut : (trees : List KeyTree) (ss : List Stored) → AllSound trees ss → AllSound (take (trees_at ss) trees) ss
sound-cut trees ss h = sound-same trees (take (trees_at ss) trees) ss (lower-take (trees_at ss) trees h.lower) (say-cut trees ss h) h

-- ---- by what changes say

pub found_in_changes : (q : ℕ) (cs : List (ℕ × Option ℕ)) (s m : List (ℕ × ℕ)) → s ≡ changed cs m → None ≡ find nat_cmp q cs → find nat_cmp q s ≡ find nat_cmp q m
found_in_changes q cs s m e f = ap (find nat_cmp q) e ∙ find-changed q cs m ∙ ap (λ o. unwrap_or o (find nat_cmp q m)) (sym f)

-- ---- what is made next

pub snapshots-sorted : (trees : List KeyTree) (ss : List Stored) (i : ℕ) → Sorted (snapshot (snapshots_of trees ss) i)
snapshots-sorted trees [] i = tt
snapshots-sorted trees (s ∷ ss) zero = listed-sorted (at_key trees s.tree) 0 s.keys
snapshots-sorted trees (s ∷ ss) (suc i) = snapshots-sorted trees ss i

-- nothing is found past all keys
find-past : {X : Type 0} (k q : ℕ) (es : List (ℕ × X)) → All (λ e. e.0 < k) es → k ≤ q → find nat_cmp q es ≡ None
find-past k q [] h l = refl
find-past k q (e ∷ es) h l = find-passed q e es (let below = h zero e (omega arith) in omega arith) ∙ find-past k q es (λ i d m. h (suc i) d (omega arith)) l
  where
    find-passed : {Y : Type 0} (q : ℕ) (e : ℕ × Y) (es : List (ℕ × Y)) → e.0 < q → find nat_cmp q (e ∷ es) ≡ find nat_cmp q es
    find-passed q e es l = ap (λ r. cond (is_eq r) (Some e.1) (find nat_cmp q es)) (cmp-above q e.0 l)

earlier-need : (trees others : List KeyTree) (ss : List Stored) (n : ℕ) → AllSound trees ss → IsLonger trees others → n ≡ length others → (other : ℕ) → other < length ss → IfSome (slice_get ss other) (λ t. t.trees ≤ n)
earlier-need trees others ss n h more e other l =
    if-some (IsSound trees ss other) (λ t. t.trees ≤ n) (slice_get ss other) (λ t g. omega (arith, g.within, longer trees others more)) (h.each other)

pub made-changes : (trees others : List KeyTree) (ss : List Stored) (parent : ℕ) (p : Stored) (cs : List (ℕ × Option ℕ)) (s : Stored) → AllSound trees ss → IsLonger trees others → parent < length ss → p ≡ get_or ss parent p
    → s.tree ≤ length others → s.trees ≡ length others → ((key : ℕ) → at_key others s.tree key ≡ unwrap_or (find nat_cmp key cs) (at_key trees p.tree key)) → All (λ c. c.0 < s.keys) cs → p.keys ≤ s.keys → (p.keys ≤ 2 ^ 32 → s.keys ≤ 2 ^ 32) → step_of s ≡ Some (parent, cs)
    → record { sound : IsSound others ss (length ss) s; meant : snapshot_of others s ≡ changed cs (snapshot (snapshots_of trees ss) parent) }
made-changes trees others ss parent p cs s h more l e tree count put below keys few step = record {
  sound = record {
    tree = omega arith;
    within = omega arith;
    few = few before.few;
    bounded = bounded;
    step = subst (λ o. IfSome o (λ step. (step.0 < length ss) × (snapshot_of others s ≡ changed step.1 (snapshot (snapshots_of others ss) step.0)))) (sym step)
        (l, meant ∙ ap (λ maps. changed cs (snapshot maps parent)) (sym (snapshots-longer trees others ss h more)));
    earlier = earlier-need trees others ss s.trees h more count;
  };
  meant = meant;
}
  where
    before : IsSound trees ss parent p
    before = sound-at trees ss parent p h (there ss parent p l e)

    map-before : List (ℕ × ℕ)
    map-before = snapshot (snapshots_of trees ss) parent

    found : (q : ℕ) → find nat_cmp q (snapshot (snapshots_of trees ss) parent) ≡ at_key trees p.tree q
    found q = ap (find nat_cmp q) (snapshot-at trees ss parent p l e) ∙ find-in trees ss parent p q before

    bounded : (q : ℕ) → s.keys ≤ q → at_key others s.tree q ≡ None
    bounded q k = put q ∙ ap (λ o. unwrap_or o (at_key trees p.tree q)) (find-past s.keys q cs below k) ∙ before.bounded q (omega arith)

    meant : snapshot_of others s ≡ changed cs (snapshot (snapshots_of trees ss) parent)
    meant =
        listed-is (at_key others s.tree) s.keys (changed cs (snapshot (snapshots_of trees ss) parent)) (sorted-changed cs (snapshot (snapshots_of trees ss) parent) (snapshots-sorted trees ss parent)) bounded
        (λ q. find-changed q cs (snapshot (snapshots_of trees ss) parent) ∙ ap (unwrap_or (find nat_cmp q cs)) (found q) ∙ sym (put q))

pub made-entries : (trees others : List KeyTree) (ss : List Stored) (es : List (ℕ × ℕ)) (s : Stored) → AllSound trees ss → IsLonger trees others → Sorted es
    → s.tree ≤ length others → s.trees ≡ length others → ((key : ℕ) → at_key others s.tree key ≡ find nat_cmp key es) → All (λ e. e.0 < s.keys) es → s.keys ≤ 2 ^ 32 → step_of s ≡ None
    → record { sound : IsSound others ss (length ss) s; meant : snapshot_of others s ≡ es }
made-entries trees others ss es s h more sorted tree count put below few step = record {
  sound = record {
    tree = omega arith;
    within = omega arith;
    few = few;
    bounded = bounded;
    step = subst (λ o. IfSome o (λ step. (step.0 < length ss) × (snapshot_of others s ≡ changed step.1 (snapshot (snapshots_of others ss) step.0)))) (sym step) tt;
    earlier = earlier-need trees others ss s.trees h more count;
  };
  meant = listed-is (at_key others s.tree) s.keys es sorted bounded (λ q. sym (put q));
}
  where
    bounded : (q : ℕ) → s.keys ≤ q → at_key others s.tree q ≡ None
    bounded q k = put q ∙ find-past s.keys q es below k

-- ---- one more, by what was told of it

pub on_err : {A E Q : Type 0} (r : Result A E) → Q → OnErr r Q
on_err (Ok x) h = tt
on_err (Err e) h = h

pub none-more : (trees others : List KeyTree) (ss all : List Stored) → AllSound trees ss → IsLonger trees others → AreLower others → all ≡ ss → record { sound : AllSound others all; same : snapshots_of others all ≡ snapshots_of trees ss }
none-more trees others ss all h more lower e = record {
  sound = subst (AllSound others) (sym e) (sound-longer trees others ss h lower more);
  same = ap (snapshots_of others) e ∙ snapshots-longer trees others ss h more;
}

pub one-more : (trees others : List KeyTree) (ss all : List Stored) (s : Stored) (m : List (ℕ × ℕ)) → AllSound trees ss → IsLonger trees others → AreLower others → IsSound others ss (length ss) s → snapshot_of others s ≡ m → all ≡ ss ++ s ∷ []
    → record { sound : AllSound others all; added : snapshots_of others all ≡ snapshots_of trees ss ++ m ∷ [] }
one-more trees others ss all s m h more lower sound meant e = record {
  sound = subst (AllSound others) (sym e) (sound-push others ss s (sound-longer trees others ss h lower more) sound);
  added = ap (snapshots_of others) e ∙ snapshots-push others ss s ∙ ap (λ maps. maps ++ snapshot_of others s ∷ []) (snapshots-longer trees others ss h more) ∙ ap (λ k. snapshots_of trees ss ++ k ∷ []) meant;
}
