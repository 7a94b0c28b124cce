-- For callers: lists of berths and their numbers.
use Rattle.std.proofs.Common.{◌≡◌, ◌⊎◌, ℕ, zero, suc, ◌+◌, ◌<◌, ◌≤◌, arith, List, [], ◌∷◌, length, sym, ap, ◌∙◌, inl, inr, refl}
use mathlib.Core.Logic.{dite}
use native.Mathlib.Decide.{ℕ_discrete}
use Rattle.mx_dock.specs.declared.views.BerthView.{BerthView}
use Rattle.mx_dock.specs.Dock.{HasNumber, HasEach}

module _ {E : Type 0} where
  -- the numbers of the berths go up by one, from n
  abbrev pub InOrder : ℕ → List (BerthView E) → Type 0
  InOrder n [] = Unit {0}
  InOrder n (b ∷ bs) = (b.number ≡ n) × InOrder (suc n) bs

  pub HasNumber-head : (b : BerthView E) (bs : List (BerthView E)) (n : ℕ) → b.number ≡ n → HasNumber (b ∷ bs) n
  HasNumber-head b bs n is = (0, b, omega arith, refl, is)

  pub HasNumber-tail : (b : BerthView E) (bs : List (BerthView E)) (n : ℕ) → HasNumber bs n → HasNumber (b ∷ bs) n
  HasNumber-tail b bs n has = let within = has.2 in (suc has.0, has.1, omega arith, has.3, has.4)

  -- the number is that of the first berth, or of one behind it
  pub HasNumber-cases : (b : BerthView E) (bs : List (BerthView E)) (n : ℕ) → HasNumber (b ∷ bs) n → (n ≡ b.number) ⊎ HasNumber bs n
  HasNumber-cases b bs n (zero, x, within, at, is) = inl (sym is ∙ ap (λ (y : BerthView E). y.number) (sym at))
  HasNumber-cases b bs n (suc k, x, within, at, is) = inr (k, x, omega arith, at, is)

  has_between : (bs : List (BerthView E)) (low n : ℕ) → InOrder low bs → low ≤ n → n < low + length bs → HasNumber bs n
  has_between [] low n order above below = absurd (omega arith)
  has_between (b ∷ bs) low n order above below = dite (ℕ_discrete low n) (λ same. HasNumber-head b bs n (order.0 ∙ same))
      (λ other. HasNumber-tail b bs n (has_between bs (suc low) n order.1 (omega arith) (omega arith)))

  -- berths in the order of their numbers have each number
  pub HasEach-in_order : (bs : List (BerthView E)) (count : ℕ) → InOrder 1 bs → length bs ≡ count → HasEach count bs
  HasEach-in_order bs count order whole n low high = has_between bs 1 n order low (omega arith)
