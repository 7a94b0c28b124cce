-- What contracts see of a keeper over SQLite (our own).
use Rattle.std.specs.Prelude.{ℕ, Bool, refl}
use Rattle.std.specs.Coded.{Coded, code_by, coded×, coded_ℕ, coded_bool}
use Rattle.sqlite.specs.Held.{Held, held_code}

pub record KeeperView (S : Type 0) : Type 0 where
  pub connection : Held S
  pub failures : ℕ
  -- how often it was not found whether the connection is open
  pub unsure : ℕ
  -- the rows are read already
  pub is_ready : Bool
  -- it notes where it fails
  pub is_noted : Bool

abbrev pub keeper_code : {S : Type 0} → Coded S → Coded (KeeperView S)
keeper_code {S} store =
    code_by (Held S × (ℕ × (ℕ × (Bool × Bool))))
    (coded× (held_code store) (coded× coded_ℕ (coded× coded_ℕ (coded× coded_bool coded_bool))))
    (λ k. (k.connection, (k.failures, (k.unsure, (k.is_ready, k.is_noted)))))
    (λ p. record { connection = p.0; failures = p.1.0; unsure = p.1.1.0; is_ready = p.1.1.1.0; is_noted = p.1.1.1.1 })
    (λ _. refl)
