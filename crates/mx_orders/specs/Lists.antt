-- Distinct elements, by cases on the list, and numbers that fall.
use Rattle.std.specs.Prelude.{ℕ, suc, ◌<◌, ◌≤◌, ◌^◌, List, [], ◌∷◌, length, slice_index, Option, None, Some, IfSome}
pub use Rattle.mx_graph.proofs.Members.{In}

abbrev pub Distinct : {A : Type 0} → List A → Type 0
Distinct [] = Unit {0}
Distinct (x ∷ xs) = (¬ In x xs) × Distinct xs

-- each number is below those before it
abbrev pub Falls : List ℕ → Type 0
Falls xs = (i j : ℕ) → i < j → j < length xs → slice_index xs j < slice_index xs i

-- what comes next is below all
abbrev pub IsBelow : Option ℕ → List ℕ → Type 0
IsBelow next xs = (i : ℕ) → i < length xs → IfSome next (λ q. q < slice_index xs i)

-- how many numbers fall from this one at most
abbrev pub left : Option ℕ → ℕ
left None = 0
left (Some p) = suc p

-- a line of events, each of which rests on the next: they fall, and there are no more than places of 32 bits
pub record IsLine (xs : List ℕ) : Type 0 where
  pub few : length xs ≤ 2 ^ 32
  pub falls : Falls xs
