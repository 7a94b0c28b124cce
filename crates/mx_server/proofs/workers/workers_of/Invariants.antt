use Rattle.std.specs.Prelude.{All}
use Rattle.std.specs.Vec.Iter.{into_iter_items}
use Rattle.mx_engine.specs.Seats.{IsSeatOf}
use Rattle.mx_server.proofs.workers.workers_of.Given as goal

-- the seats that are left are of the engine
abbrev pub invariant-loop-seat : goal.invariant-loop-seat
invariant-loop-seat g l = All (IsSeatOf l.fn.shared.value.engine) (into_iter_items l.seat-iterator)
