-- Shards and books whose keepers have rows, where none may have one.
use Rattle.std.proofs.Common.{◌≡◌, ℕ, ◌<◌, List, [], length, get_or, refl, sym, ap, ◌∙◌, arith}
use Rattle.std.specs.Prelude.{Option, Some}
use Rattle.mx_keeper.specs.Places.{PlaceView}
use Rattle.mx_shard.specs.Journal.{CanReopen}
use Rattle.mx_shard.proofs.LegalLaws.{legal-start}
use Rattle.mx_world.specs.Parts.{FilledAt}
use Rattle.mx_world.specs.Reopening.{AreOver, CannotReopenAt}
use Rattle.mx_world.specs.Storage.{UnfitAt}

module _ {K Row : Type 0} (is_ready honest : K → Type 0) (read : K → Option (List Row)) (keepers : List K) where
  -- over a keeper with no rows one could be opened
  pub closed-unfit : (can : PlaceView → List Row → Type 0) → ((place : PlaceView) → can place []) → (n : ℕ)
      → CannotReopenAt can is_ready honest read keepers n → UnfitAt is_ready honest read keepers n
  closed-unfit can fine n (l, why) = (l, λ d ready honestly none. why d ready honestly [] none (fine (record { number = n; count = length keepers })))

  same_rows : (xs ys : List Row) → Some xs ≡ Some ys → xs ≡ ys
  same_rows xs ys e = cc

  -- what has an entry was opened over a keeper with a row
  pub filled-unfit : {V Entry : Type 0} (keeper_of : V → K) (journal : V → List Entry) (stored : List Entry → List Row) (reopened : List Row → List Entry)
      → reopened [] ≡ [] → (K → V) → (views : List V) → length views ≡ length keepers
      → AreOver (λ keeper view. (journal view ≡ reopened (stored (journal view))) × (honest (keeper_of view) → honest keeper × (read keeper ≡ Some (stored (journal view)))) × (is_ready keeper → honest keeper → honest (keeper_of view))) keepers views
      → (n : ℕ) → FilledAt (λ view. journal view ≡ []) views n → UnfitAt is_ready honest read keepers n
  filled-unfit {V = V} keeper_of journal stored reopened start any views long over n (l, filled) = (
    omega (arith, l, long),
    λ d ready honestly is.
        let view : V = get_or views n (any d) in
        let within : n < length keepers = omega (arith, l, long) in
        let from = over n d (any d) within in
        filled (any d) (from.0 ∙ ap reopened (same_rows (stored (journal view)) [] (sym (from.1 (from.2 ready honestly)).1 ∙ is)) ∙ start),
  )

-- a shard can be opened over no rows
pub no-rows-open : (place : PlaceView) → CanReopen place []
no-rows-open place = record { here = λ k d l. absurd (omega arith); legal = legal-start; versions = refl }
