-- A difference of chains goes by the members of what is shared.
use Rattle.std.proofs.Common.{◌≡◌, ℕ, Bool, true, not, ◌&&◌, ◌||◌, List, map, sym, ap, ◌∙◌}
use Rattle.std.specs.List.{list_any, list_all}
use Rattle.mx_graph.specs.Record.{Row, is_in, places}
use Rattle.mx_graph.specs.Graph.{auth_chain, IsClosed, IsSound}
use Rattle.mx_graph.proofs.Closure.{same_tests, same_closed}
use Rattle.mx_state_res.specs.ChainDifference.{chain_difference, cites}
use Rattle.mx_state_res.proofs.ChainLemmas.{chain-least}

module _ (rows : List Row) (sound : IsSound rows) (xs ys : List ℕ) (same : (p : ℕ) → is_in xs p ≡ is_in ys p) where
  chain-same : (p : ℕ) → is_in (auth_chain rows xs) p ≡ is_in (auth_chain rows ys) p
  chain-same p = same_closed (cites rows) xs (is_in (auth_chain rows xs)) (is_in (auth_chain rows ys)) (chain-least rows xs sound) (closed, least) p
    where
      closed : IsClosed (cites rows) xs (is_in (auth_chain rows ys))
      closed x y h k = (chain-least rows ys sound).0 x y (ap (λ b. b || is_in (auth_chain rows ys) x) (sym (same x)) ∙ h) k

      least : (other : ℕ → Bool) → IsClosed (cites rows) xs other → (q : ℕ) → is_in (auth_chain rows ys) q ≡ true → other q ≡ true
      least other c = (chain-least rows ys sound).1 other (λ x y h k. c x y (ap (λ b. b || other x) (same x) ∙ h) k)

  pub difference-same : (apart : List (List ℕ)) → chain_difference rows xs apart ≡ chain_difference rows ys apart
  unfolding chain_difference
  difference-same apart =
      same_tests _ _ (places rows)
      (λ p k. ap (λ b. (list_any (λ chain. is_in chain p) (map (auth_chain rows) apart) && not (list_all (λ chain. is_in chain p) (map (auth_chain rows) apart))) && not b) (chain-same p))
