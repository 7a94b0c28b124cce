-- Callers of an engine (our own).
use Rattle.std.specs.Prelude.{ℕ, ◌≡◌, ◌+◌, ◌<◌, ◌≤◌, List, All, length, get_or}
use Rattle.mx_engine.specs.Seats.{IsSeatOf, seat_number, seats_made}
use Rattle.mx_engine.specs.declared.engines.Engine.{Engine}
use Rattle.mx_engine.specs.declared.seats.Seat.{Seat}

-- these are all the seats of the engine, in the order of their numbers
pub record AreTheSeats {K L V G : Type 0} (engine : Engine K L V G) (seats : List (Seat K L)) : Type 0 where
  pub mine : All (IsSeatOf engine) seats
  pub numbers : (n : ℕ) (d : Seat K L) → n < length seats → seat_number (get_or seats n d) ≡ n + 1
  pub whole : length seats ≡ seats_made engine
  pub some : 1 ≤ length seats
