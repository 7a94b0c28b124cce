-- The keys at which two snapshots differ.
use Rattle.std.proofs.Common.{◌≡◌, ℕ, zero, suc, ◌+◌, ◌<◌, length, max, min, ◌++◌, Bool, true, false, cond, List, [], ◌∷◌, Some, None, refl, sym, ap, subst, ◌∙◌, ◌⊎◌, inl, inr, arith}
use Rattle.std.specs.Prelude.{Option, Contains, IsTrue, ◌↔◌, slice_index_or}
use Rattle.std.specs.Ordering.{nat_cmp, is_eq}
use Rattle.std.specs.declared.cmp.Ordering.{Ordering}
use Rattle.std.specs.declared.cmp.Ordering.TheVariants.{Less, Equal, Greater}
use Rattle.std.specs.FinMap.{nat_cmp-IsAntisymmetric}
use Rattle.std.specs.FinMap.Entries.{find}
use Rattle.std.specs.List.{dedup}
use Rattle.std.specs.List.Sorted.{IsPermutation}
use Rattle.std.specs.Map.{keys_of}
use Rattle.std.proofs.lemmas.List.Elements.{Contains-append_left, Contains-append_right, Contains-append_cases}
use Rattle.std.proofs.lemmas.List.Kept.{Contains-dedup_nat, Contains-from_dedup}
use Rattle.std.proofs.lemmas.List.Sorted.{Contains-permutation, IsPermutation-sym}
use lib.Dec.{eqb}
use Rattle.mx_states.specs.SnapshotEntries.{AgreeAt, DifferAt, changed, snapshot}
use Rattle.mx_states.proofs.StoredLemmas.{found_in_changes}

-- what the keys gathered so far owe: where one and other agree at a key that is not among them, so do first and second
pub record IsGathered (maps : List (List (ℕ × ℕ))) (first second one other : ℕ) (keys : List ℕ) : Type 0 where
  pub owes : (key : ℕ) → Contains keys key ⊎ (AgreeAt key (snapshot maps one) (snapshot maps other) → AgreeAt key (snapshot maps first) (snapshot maps second))

pub gathered_none : (maps : List (List (ℕ × ℕ))) (first second : ℕ) → IsGathered maps first second first second []
gathered_none maps first second = record { owes = λ key. inr (λ e. e) }

pub gathered_all : (maps : List (List (ℕ × ℕ))) (first second one other : ℕ) (keys : List ℕ) → IsGathered maps first second one other keys → one ≡ other
    → (key : ℕ) → Contains keys key ⊎ AgreeAt key (snapshot maps first) (snapshot maps second)
gathered_all maps first second one other keys g e key = by (g.owes key)
  where
    by : Contains keys key ⊎ (AgreeAt key (snapshot maps one) (snapshot maps other) → AgreeAt key (snapshot maps first) (snapshot maps second))
        → Contains keys key ⊎ AgreeAt key (snapshot maps first) (snapshot maps second)
    by (inl c) = inl c
    by (inr f) = inr (f (ap (λ n. find nat_cmp key (snapshot maps n)) e))

-- ---- a key is among those of the entries, or they have nothing at it

contains_more : (x y : ℕ) (xs : List ℕ) → Contains xs x → Contains (y ∷ xs) x
contains_more x y xs h = Contains-append_right (y ∷ []) xs x h

contains_first : (x y : ℕ) (xs : List ℕ) → y ≡ x → Contains (y ∷ xs) x
contains_first x y xs e = (zero, omega arith, e)

listed : {X : Type 0} (key : ℕ) (es : List (ℕ × X)) → Contains (keys_of es) key ⊎ (None ≡ find nat_cmp key es)
listed key [] = inr refl
listed {X} key (e ∷ es) = by (nat_cmp key e.0) refl (listed key es)
  where
    passed : (r : Ordering) → is_eq r ≡ false → nat_cmp key e.0 ≡ r → None ≡ find nat_cmp key es → None ≡ find nat_cmp key (e ∷ es)
    passed r f h n = n ∙ sym (ap (λ b. cond b (Some e.1) (find nat_cmp key es)) (ap is_eq h ∙ f))

    by : (r : Ordering) → nat_cmp key e.0 ≡ r → Contains (keys_of es) key ⊎ (None ≡ find nat_cmp key es) → Contains (keys_of (e ∷ es)) key ⊎ (None ≡ find nat_cmp key (e ∷ es))
    by Equal h k = inl (contains_first key e.0 (keys_of es) (sym (nat_cmp-IsAntisymmetric key e.0 h)))
    by Less h (inl k) = inl (contains_more key e.0 (keys_of es) k)
    by Less h (inr n) = inr (passed Less refl h n)
    by Greater h (inl k) = inl (contains_more key e.0 (keys_of es) k)
    by Greater h (inr n) = inr (passed Greater refl h n)

-- ---- a step

ordered_pair : (a b : ℕ) → ((max a b ≡ b) × (min a b ≡ a)) ⊎ ((max a b ≡ a) × (min a b ≡ b))
ordered_pair a b = grind arith

pub pair_sum : (one other later earlier : ℕ) → later ≡ max one other → earlier ≡ min one other → later + earlier ≡ one + other
pair_sum one other later earlier l e = by (ordered_pair one other)
  where
    by : ((max one other ≡ other) × (min one other ≡ one)) ⊎ ((max one other ≡ one) × (min one other ≡ other)) → later + earlier ≡ one + other
    by (inl p) = let x : later ≡ other = l ∙ p.0 in let y : earlier ≡ one = e ∙ p.1 in omega arith
    by (inr p) = let x : later ≡ one = l ∙ p.0 in let y : earlier ≡ other = e ∙ p.1 in omega arith

pub pair_in_range : (n one other later earlier : ℕ) → later ≡ max one other → earlier ≡ min one other → one < n → other < n → record { later_is : later < n; earlier_is : earlier < n }
pair_in_range n one other later earlier l e h k = by (ordered_pair one other)
  where
    by : ((max one other ≡ other) × (min one other ≡ one)) ⊎ ((max one other ≡ one) × (min one other ≡ other)) → record { later_is : later < n; earlier_is : earlier < n }
    by (inl p) = let x : later ≡ other = l ∙ p.0 in let y : earlier ≡ one = e ∙ p.1 in record { later_is = omega arith; earlier_is = omega arith }
    by (inr p) = let x : later ≡ one = l ∙ p.0 in let y : earlier ≡ other = e ∙ p.1 in record { later_is = omega arith; earlier_is = omega arith }

agree_either : (maps : List (List (ℕ × ℕ))) (key one other later earlier : ℕ) → later ≡ max one other → earlier ≡ min one other
    → AgreeAt key (snapshot maps earlier) (snapshot maps later) → AgreeAt key (snapshot maps one) (snapshot maps other)
agree_either maps key one other later earlier l e h = by (ordered_pair one other)
  where
    by : ((max one other ≡ other) × (min one other ≡ one)) ⊎ ((max one other ≡ one) × (min one other ≡ other)) → AgreeAt key (snapshot maps one) (snapshot maps other)
    by (inl p) = ap (λ n. find nat_cmp key (snapshot maps n)) (sym (e ∙ p.1)) ∙ h ∙ ap (λ n. find nat_cmp key (snapshot maps n)) (l ∙ p.0)
    by (inr p) = ap (λ n. find nat_cmp key (snapshot maps n)) (sym (l ∙ p.0)) ∙ sym h ∙ ap (λ n. find nat_cmp key (snapshot maps n)) (e ∙ p.1)

-- up a delta, whose keys are gathered
pub gathered_delta : (maps : List (List (ℕ × ℕ))) (first second one other later earlier parent : ℕ) (cs : List (ℕ × Option ℕ)) (keys : List ℕ)
    → IsGathered maps first second one other keys → later ≡ max one other → earlier ≡ min one other → snapshot maps later ≡ changed cs (snapshot maps parent)
    → IsGathered maps first second earlier parent (keys ++ keys_of cs)
gathered_delta maps first second one other later earlier parent cs keys g l e meant = record { owes = λ key. by key (g.owes key) (listed key cs) }
  where
    by : (key : ℕ) → Contains keys key ⊎ (AgreeAt key (snapshot maps one) (snapshot maps other) → AgreeAt key (snapshot maps first) (snapshot maps second))
        → Contains (keys_of cs) key ⊎ (None ≡ find nat_cmp key cs)
        → Contains (keys ++ keys_of cs) key ⊎ (AgreeAt key (snapshot maps earlier) (snapshot maps parent) → AgreeAt key (snapshot maps first) (snapshot maps second))
    by key (inl c) k = inl (Contains-append_left keys (keys_of cs) key c)
    by key (inr f) (inl c) = inl (Contains-append_right keys (keys_of cs) key c)
    by key (inr f) (inr n) = inr (λ h. f (agree_either maps key one other later earlier l e (h ∙ sym (found_in_changes key cs (snapshot maps later) (snapshot maps parent) meant n))))

-- whole maps, with all their keys
pub gathered_whole : (maps : List (List (ℕ × ℕ))) (first second one other later earlier : ℕ) (keys : List ℕ)
    → IsGathered maps first second one other keys → later ≡ max one other → earlier ≡ min one other
    → (key : ℕ) → Contains ((keys ++ keys_of (snapshot maps later)) ++ keys_of (snapshot maps earlier)) key ⊎ AgreeAt key (snapshot maps first) (snapshot maps second)
gathered_whole maps first second one other later earlier keys g l e key = by (g.owes key) (listed key (snapshot maps later)) (listed key (snapshot maps earlier))
  where
    by : Contains keys key ⊎ (AgreeAt key (snapshot maps one) (snapshot maps other) → AgreeAt key (snapshot maps first) (snapshot maps second))
        → Contains (keys_of (snapshot maps later)) key ⊎ (None ≡ find nat_cmp key (snapshot maps later))
        → Contains (keys_of (snapshot maps earlier)) key ⊎ (None ≡ find nat_cmp key (snapshot maps earlier))
        → Contains ((keys ++ keys_of (snapshot maps later)) ++ keys_of (snapshot maps earlier)) key ⊎ AgreeAt key (snapshot maps first) (snapshot maps second)
    by (inl c) _ _ = inl (Contains-append_left _ (keys_of (snapshot maps earlier)) key (Contains-append_left keys (keys_of (snapshot maps later)) key c))
    by (inr f) (inl c) _ = inl (Contains-append_left _ (keys_of (snapshot maps earlier)) key (Contains-append_right keys (keys_of (snapshot maps later)) key c))
    by (inr f) (inr m) (inl c) = inl (Contains-append_right (keys ++ keys_of (snapshot maps later)) (keys_of (snapshot maps earlier)) key c)
    by (inr f) (inr m) (inr n) = inr (f (agree_either maps key one other later earlier l e (sym n ∙ m)))

-- ---- the candidates at which they differ

pub record HasKept (P : ℕ → Type 0) (seen keys : List ℕ) : Type 0 where
  pub exact : (key : ℕ) → Contains keys key ↔ (Contains seen key × P key)

contains_nothing : (key : ℕ) → Contains [] key → ⊥
contains_nothing key c = omega (arith, c.1)

only_one : (x key i : ℕ) → i < length (x ∷ []) → slice_index_or (x ∷ []) i key ≡ key → x ≡ key
only_one x key zero l e = e
only_one x key (suc i) l e = absurd (omega arith)

pub kept_none : (P : ℕ → Type 0) → HasKept P [] []
kept_none P = record { exact = λ key. (λ c. absurd (contains_nothing key c), λ c. absurd (contains_nothing key c.0)) }

pub kept_more : (P : ℕ → Type 0) (seen keys : List ℕ) (x : ℕ) (wanted : Bool) → HasKept P seen keys → (IsTrue wanted ↔ P x) → HasKept P (seen ++ x ∷ []) (keys ++ cond wanted (x ∷ []) [])
kept_more P seen keys x wanted h w = record { exact = λ key. (λ c. there key wanted w (Contains-append_cases keys (cond wanted (x ∷ []) []) key c), λ c. back key wanted w (Contains-append_cases seen (x ∷ []) key c.0) c.1) }
  where
    there : (key : ℕ) (b : Bool) → (IsTrue b ↔ P x) → Contains keys key ⊎ Contains (cond b (x ∷ []) []) key → Contains (seen ++ x ∷ []) key × P key
    there key b w (inl c) = let k = (h.exact key).0 c in (Contains-append_left seen (x ∷ []) key k.0, k.1)
    there key true w (inr c) = let same : x ≡ key = only_one x key c.0 c.1 c.2 in (Contains-append_right seen (x ∷ []) key c, subst P same (w.0 refl))
    there key false w (inr c) = absurd (contains_nothing key c)

    back : (key : ℕ) (b : Bool) → (IsTrue b ↔ P x) → Contains seen key ⊎ Contains (x ∷ []) key → P key → Contains (keys ++ cond b (x ∷ []) []) key
    back key b w (inl c) p = Contains-append_left keys (cond b (x ∷ []) []) key ((h.exact key).1 (c, p))
    back key true w (inr c) p = Contains-append_right keys (x ∷ []) key c
    back key false w (inr c) p = let same : x ≡ key = only_one x key c.0 c.1 c.2 in let wrong : false ≡ true = w.1 (subst P (sym same) p) in absurd (cc)

-- sorted, and each key once
pub kept_in_order : (P : ℕ → Type 0) (seen keys sorted : List ℕ) → ((key : ℕ) → Contains keys key ↔ (Contains seen key × P key)) → ((key : ℕ) → P key → Contains seen key)
    → IsPermutation keys sorted → (key : ℕ) → Contains (dedup eqb sorted) key ↔ P key
kept_in_order P seen keys sorted h all moved key = (
  λ c. ((h key).0 (Contains-permutation sorted keys key (IsPermutation-sym keys sorted moved) (Contains-from_dedup eqb sorted key c))).1,
  λ p. Contains-dedup_nat sorted key (Contains-permutation keys sorted key moved ((h key).1 (all key p, p))),
)

pub contained_where_differing : (seen : List ℕ) (s t : List (ℕ × ℕ)) → ((key : ℕ) → Contains seen key ⊎ AgreeAt key s t) → (key : ℕ) → DifferAt key s t → Contains seen key
contained_where_differing seen s t h key d = by (h key)
  where
    by : Contains seen key ⊎ AgreeAt key s t → Contains seen key
    by (inl c) = c
    by (inr e) = absurd (d e)
