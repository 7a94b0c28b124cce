use Rattle.std.proofs.Common.{List, ℕ, []}
use Rattle.mx_world.specs.Calls.{Start}
use Rattle.mx_world.specs.Worlds.{IsAfter}
use Rattle.mx_log.specs.LineReading.{AreTaken, left, turns_left}
use Rattle.mx_log.specs.LineRuns.{AreAnswered}
use Rattle.mx_pdu.specs.Offers.{offer_by}
use Rattle.mx_log.proofs.logs.answer_log.Given as goal

-- the lines so far are answered, and the others are left
abbrev pub invariant-loop-line : goal.invariant-loop-line
invariant-loop-line g l = (lines : List (List ℕ)) × AreTaken (g.R.Read.remaining l.fn.input) (left l.lines (g.R.Read.remaining l.input)) lines
    × ((start : Start) → IsAfter start [] l.fn.desk.rooms.world
    → AreAnswered (offer_by (g.V.Verifier.judges l.fn.verifier)) l.fn.server.name start lines
    (g.W.Write.contents l.fn.out) (g.W.Write.contents l.out) l.desk.rooms.world)

-- the lines and the reads to come
abbrev pub decreases-loop-line : goal.decreases-loop-line
decreases-loop-line g l = turns_left l.lines
