-- For private clauses alone: what is kept while places are arranged.
use Rattle.std.specs.Prelude.{◌≡◌, ℕ, suc, ◌==◌, Bool, true, false, not, List, [], ◌∷◌, ◌⊎◌, length, unwrap_or, option_map, slice_get, slice_index_or, Vec, if◌then◌else◌}
use Rattle.std.specs.List.{list_any}
use Rattle.std.specs.BTreeSet.{contains}
use Rattle.std.specs.Ordering.{nat_cmp}
use Rattle.std.specs.declared.alloc.Global.{Global}
use Rattle.mx_export.specs.declared.arranging.Arranging.{Arranging}

abbrev pub is_in : List ℕ → ℕ → Bool
is_in xs p = list_any (λ x. x == p) xs

-- the list at a place, past the end none
abbrev pub listed : List (Vec ℕ Global) → ℕ → List ℕ
listed lists p = unwrap_or (option_map (λ v. v.items) (slice_get lists p)) []

-- a place cites another
abbrev pub cites_place : List (Vec ℕ Global) → ℕ → ℕ → Bool
cites_place cited p q = is_in (listed cited p) q

-- a place is there, and not written
abbrev pub is_left : List Bool → ℕ → Bool
is_left written p = not (slice_index_or written p true)

-- the places that are left, from this number on
abbrev pub lefts : ℕ → List Bool → List ℕ
lefts k [] = []
lefts k (w ∷ ws) = if w then lefts (suc k) ws else k ∷ lefts (suc k) ws

abbrev pub is_ready : Arranging → ℕ → Bool
is_ready s p = contains nat_cmp s.ready p

-- a place waits for another
abbrev pub waits_for : Arranging → ℕ → ℕ → Bool
waits_for s p q = is_in (listed s.waiting.items q) p

-- those ready are left and cite none that is left; those that wait are left, and wait for one left that they cite
pub record IsConsistent (cites : ℕ → ℕ → Bool) (left ready : ℕ → Bool) (waits : ℕ → ℕ → Bool) : Type 0 where
  pub ready_left : (p : ℕ) → ready p ≡ true → left p ≡ true
  pub ready_free : (p q : ℕ) → ready p ≡ true → cites p q ≡ true → left q ≡ false
  pub waiting_left : (p q : ℕ) → waits p q ≡ true → left p ≡ true
  pub awaited_left : (p q : ℕ) → waits p q ≡ true → left q ≡ true
  pub awaited_cited : (p q : ℕ) → waits p q ≡ true → cites p q ≡ true

pub record IsSound (cited : List (Vec ℕ Global)) (s : Arranging) : Type 0 where
  pub places : length s.waiting.items ≡ length s.written.items
  pub citing : length cited ≡ length s.written.items
  pub consistent : IsConsistent (cites_place cited) (is_left s.written.items) (is_ready s) (waits_for s)

-- the place is ready, or waits
abbrev pub IsHeld : Arranging → ℕ → Type 0
IsHeld s p = (is_ready s p ≡ true) ⊎ ((q : ℕ) × (waits_for s p q ≡ true))
