use Rattle.std.proofs.Common.{length}
use Rattle.mx_server.specs.Hosting.{AreHosted, StopsAt, lines_to_host}
use Rattle.mx_server.specs.Judging.{judges_presence}
use Rattle.mx_server.proofs.hosting.host_rooms.Given as goal

-- the bytes that are left
abbrev pub decreases-loop-rest : goal.decreases-loop-rest
decreases-loop-rest g l = length l.rest

-- where the lines that are left host their rooms all lines do, and where one of those does not one of all does not
abbrev pub invariant-loop-rest : goal.invariant-loop-rest
invariant-loop-rest g l =
    ((last : _) → AreHosted judges_presence (lines_to_host l.rest) l.server last
    → AreHosted judges_presence (lines_to_host l.fn.lines) l.fn.server last)
    × ((last : _) → StopsAt judges_presence (lines_to_host l.rest) l.server last
    → StopsAt judges_presence (lines_to_host l.fn.lines) l.fn.server last)
