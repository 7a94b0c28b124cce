-- Sums of counters, place by place.
use Rattle.std.proofs.Common.{◌≡◌, ℕ, zero, suc, ◌<◌, ◌≤◌, List, [], ◌∷◌, ◌++◌, length, take, drop, refl, ap, arith}
use Rattle.std.specs.Prelude.{slice_index, slice_set}
use Rattle.mx_metrics.specs.Counts.{added, sum_up_to_most}

-- the sum at one place more
pub added_step : (ns ms : List ℕ) (p : ℕ) → p < length ns → take (suc p) (slice_set ns p (sum_up_to_most (slice_index ns p) (slice_index ms p))) ++ added (drop (suc p) (slice_set ns p (sum_up_to_most (slice_index ns p) (slice_index ms p)))) (drop (suc p) ms) ≡ take p ns ++ added (drop p ns) (drop p ms)
added_step [] ms p less = absurd (omega (arith, less))
added_step (n ∷ ns) ms zero less = refl
added_step (n ∷ ns) [] (suc zero) less = ap (λ l. n ∷ l) (added_step ns [] zero (omega arith))
added_step (n ∷ ns) [] (suc (suc p)) less = ap (λ l. n ∷ l) (added_step ns [] (suc p) (omega arith))
added_step (n ∷ ns) (m ∷ ms) (suc p) less = ap (λ l. n ∷ l) (added_step ns ms p (omega arith))

-- at the end
pub added_end : (ns ms : List ℕ) (p : ℕ) → length ns ≤ p → take p ns ++ added (drop p ns) (drop p ms) ≡ ns
added_end [] ms zero most = refl
added_end [] ms (suc p) most = refl
added_end (n ∷ ns) ms zero most = absurd (omega (arith, most))
added_end (n ∷ ns) [] (suc zero) most = ap (λ l. n ∷ l) (added_end ns [] zero (omega arith))
added_end (n ∷ ns) [] (suc (suc p)) most = ap (λ l. n ∷ l) (added_end ns [] (suc p) (omega arith))
added_end (n ∷ ns) (m ∷ ms) (suc p) most = ap (λ l. n ∷ l) (added_end ns ms p (omega arith))
