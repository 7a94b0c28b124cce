-- The states are marked one after another.
use Rattle.std.proofs.Common.{◌≡◌, ℕ, ◌+◌, ◌==◌, ◌≤◌, ◌<◌, Bool, true, false, ◌&&◌, ◌||◌, List, [], get_or, refl, sym, ap, ap₂, ◌∙◌, arith, eqb-true}
use Rattle.std.proofs.lemmas.Bool.Decides.{nat_tests}
use Rattle.std.proofs.lemmas.Bool.{eqb-false}
use Rattle.mx_state_res.proofs.TestLemmas.{and-true, and-false, or-false}

-- the test is of one state's events: whether they cite an event, or have it
module _ (test : List ℕ → ℕ → Bool) (lists : List (List ℕ)) (i : ℕ) (others : List ℕ) (here : get_or lists i [] ≡ others) (first old new : ℕ → ℕ → Bool) (mask : ℕ → Bool)
    (only : (j : ℕ) → mask j ≡ (i == j)) (marked : (p j : ℕ) → new p j ≡ (old p j || (test others p && mask j)))
    (below : (p j : ℕ) → j < i → old p j ≡ (first p j || test (get_or lists j []) p)) (rest : (p j : ℕ) → i ≤ j → old p j ≡ first p j) where
  apart-kept : (p j : ℕ) → (i == j) ≡ false → new p j ≡ old p j
  apart-kept p j e = marked p j ∙ or-false (old p j) _ (and-false (test others p) (mask j) (only j ∙ e))

  pub apart-below : (p j : ℕ) → j < i + 1 → new p j ≡ (first p j || test (get_or lists j []) p)
  apart-below p j l = by (i == j) refl
    where
      by : (b : Bool) → (i == j) ≡ b → new p j ≡ (first p j || test (get_or lists j []) p)
      by true e =
          let is : i ≡ j = eqb-true i j e in
          marked p j ∙ ap₂ (λ a b. a || b) (rest p j (omega arith)) (and-true (test others p) (mask j) (only j ∙ e) ∙ ap (λ xs. test xs p) (sym here ∙ ap (λ k. get_or lists k []) is))
      by false e = let n = eqb-false i j e in apart-kept p j e ∙ below p j (omega arith)

  pub apart-rest : (p j : ℕ) → i + 1 ≤ j → new p j ≡ first p j
  apart-rest p j l = apart-kept p j (grind (arith, nat_tests)) ∙ rest p j (omega arith)
