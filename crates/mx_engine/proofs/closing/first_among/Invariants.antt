use Rattle.std.proofs.Common.{◌≢◌, ◌<◌, ℕ, get_or}
use Rattle.mx_engine.specs.declared.seats.Seat.{Seat}
use Rattle.mx_engine.proofs.closing.first_among.Given as goal

-- the first seat is none of those before
abbrev pub invariant-loop-place : goal.invariant-loop-place
invariant-loop-place g l = (n : ℕ) (d : Seat g.row.K.Denot g.row.L.Denot) → n < l.place → (get_or l.fn.seats n d).number ≢ 1
