use Rattle.std.proofs.Common.{sym, subst, arith}
use Rattle.std.specs.Prelude.{All}
use Rattle.std.proofs.lemmas.List.Elements.{All-tail}
use Rattle.mx_engine.specs.Seats.{IsSeatOf}
use Rattle.mx_server.proofs.workers.workers_of.Goals as goal

pub loop-seat-init : goal.loop-seat-init
loop-seat-init g c = subst (All (IsSeatOf c.args.shared.now.value.engine)) (sym c.into_iter-seat-iterator.ensures.into_iter_gives.0) c.requires

pub worker_of-requires : goal.worker_of-requires
worker_of-requires g c = (subst (All (IsSeatOf c.args.shared.now.value.engine)) c.in-Some.ensures.steps.0 c.loop-seat.invariant) 0 c.in-Some.seat (omega arith)

pub loop-seat-preserved : goal.loop-seat-preserved
loop-seat-preserved g c =
    All-tail (IsSeatOf c.args.shared.now.value.engine) c.in-Some.seat _ (subst (All (IsSeatOf c.args.shared.now.value.engine)) c.in-Some.ensures.steps.0 c.loop-seat.invariant)
