-- What contracts see of a keeper whose file is watched.
use Rattle.std.specs.Prelude.{ℕ, ◌+◌, ◌-◌, ◌^◌, min, refl}
use Rattle.std.specs.Coded.{Coded, code_by, coded×, coded_ℕ}

-- the keeper within, and how many rows it refused since its file is lost
pub record WatchedView (K : Type 0) : Type 0 where
  pub keeper : K
  pub refusals : ℕ

-- the count of failures: those of the keeper within and the rows that were refused, as far as a `u64` goes
abbrev pub failures_of : ℕ → ℕ → ℕ
failures_of failed refusals = min (failed + refusals) (2 ^ 64 - 1)

abbrev pub watched_code : {K : Type 0} → Coded K → Coded (WatchedView K)
watched_code {K = K} code = code_by (K × ℕ) (coded× code coded_ℕ) (λ k. (k.keeper, k.refusals)) (λ p. record { keeper = p.0; refusals = p.1 }) (λ _. refl)
