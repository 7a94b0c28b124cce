-- The events of a state at some keys, by the numbers of the keys.
use Rattle.std.proofs.Common.{◌≡◌, ℕ, List, [], ◌∷◌, ◌++◌, flat_map, length, Some, None, Option, refl, sym, ap, ap₂, ◌∙◌}
use Rattle.std.specs.Option.{option_and_then}
use Rattle.std.specs.Ordering.{nat_cmp}
use Rattle.std.specs.FinMap.Entries.{find}
use Rattle.mx_graph.specs.StateMap.{State}
use Rattle.mx_states.specs.KeyNumbers.{AllBelow, AreDistinct, number_of, shown}
use Rattle.mx_states.specs.Numbered.{events_at, option_list}
use Rattle.mx_states.proofs.ShownLemmas.{find-shown}

module _ (keys : List (List ℕ × List ℕ)) (m : List (ℕ × ℕ)) where
  abbrev at : ℕ → List ℕ
  at n = option_list (find nat_cmp n m)

  step : (o : Option ℕ) (rest : List ℕ) → flat_map at (option_list o ++ rest) ≡ option_list (option_and_then (λ n. find nat_cmp n m) o) ++ flat_map at rest
  step None rest = refl
  step (Some n) rest = refl

  pub events-by-number : (wanted : State) → AreDistinct keys → AllBelow (length keys) m → flat_map at (flat_map (λ e. option_list (number_of keys e.0)) wanted) ≡ events_at wanted (shown keys m)
  events-by-number [] d b = refl
  events-by-number (e ∷ es) d b =
      step (number_of keys e.0) (flat_map (λ e. option_list (number_of keys e.0)) es)
      ∙ ap₂ (λ xs ys. xs ++ ys) (ap option_list (sym (find-shown keys m e.0 d b))) (events-by-number es d b)
