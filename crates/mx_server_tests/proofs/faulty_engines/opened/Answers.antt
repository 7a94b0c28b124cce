use Rattle.std.proofs.Common.{◌∙◌, ap, arith}
use Rattle.mx_engine.specs.Seats.{seat_number}
use Rattle.mx_server_tests.proofs.faulty_engines.opened.Goals as goal

pub returns-clause-number : goal.returns-clause-number
returns-clause-number g c =
    ap seat_number c.remove-seat.ensures.value ∙ c.in_ok-engine.ensures.numbers 0 c.remove-seat.result (omega arith)
