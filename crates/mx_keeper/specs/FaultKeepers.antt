-- What contracts see of a keeper that fails once (our own).
use Rattle.std.specs.Prelude.{ℕ, ◌+◌, ◌-◌, ◌^◌, ◌==◌, if◌then◌else◌, max, min, Option, Some, None, refl}
use Rattle.std.specs.Coded.{Coded, code_by, coded×, coded_ℕ, coded_option}

-- the keeper within, and how many more calls it passes on before it fails; none where it has failed
pub record FaultView (K : Type 0) : Type 0 where
  pub keeper : K
  pub left : Option ℕ

-- what is left after one call more
abbrev pub left_after : Option ℕ → Option ℕ
left_after None = None
left_after (Some n) = if n == 0 then None else Some (n - 1)

-- the count of failures, by that of the keeper within: one more where it has failed and a `u64` holds that
abbrev pub failures_of : ℕ → Option ℕ → ℕ
failures_of failed None = max failed (min (failed + 1) (2 ^ 64 - 1))
failures_of failed (Some n) = failed

abbrev pub fault_code : {K : Type 0} → Coded K → Coded (FaultView K)
fault_code {K = K} code = code_by (K × Option ℕ) (coded× code (coded_option coded_ℕ)) (λ k. (k.keeper, k.left)) (λ p. record { keeper = p.0; left = p.1 }) (λ _. refl)
