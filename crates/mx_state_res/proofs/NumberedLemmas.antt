-- States by their numbers.
use Rattle.std.proofs.Common.{◌≡◌, ◌∷◌, ◌++◌, refl, ap₂, subst, ◌∙◌, arith, ℕ, ◌<◌, List, [], All, length, map}
use Rattle.std.proofs.lemmas.List.Elements.{All-get_or, All-map}
use Rattle.std.specs.Prelude.{get_or}
use Rattle.mx_graph.specs.Record.{Row}
use Rattle.mx_graph.specs.StateMap.{State}
use Rattle.mx_states.specs.Numbered.{state_at}
use Rattle.mx_state_res.specs.Numbered.{AreKnown}

pub known-at : (rows : List Row) (states : List State) (numbers : List ℕ) → AreKnown rows states → All (λ n. n < length states) numbers → AreKnown rows (map (state_at states) numbers)
known-at rows states numbers known below =
    All-map (λ s. All (λ e. e.1 < length rows) s) (state_at states) numbers
    (λ k d l. All-get_or (λ s. All (λ e. e.1 < length rows) s) states (get_or numbers k d) [] (below k d l) known)

pub first-number : (n : ℕ) (numbers others : List ℕ) (first : ℕ) → numbers ≡ first ∷ others → All (λ x. x < n) numbers → first < n
first-number n numbers others first d h = subst (All (λ x. x < n)) d h 0 first (omega arith)

-- a state that was added with no entries
pub empty-added : (old new : List State) (n : ℕ) → new ≡ old ++ [] ∷ [] → n ≡ length old → state_at new n ≡ []
empty-added old new n d l = ap₂ state_at d l ∙ last old
  where
    last : (xs : List State) → state_at (xs ++ [] ∷ []) (length xs) ≡ []
    last [] = refl
    last (x ∷ xs) = last xs
