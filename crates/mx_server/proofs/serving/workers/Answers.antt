use Rattle.std.proofs.Common.{subst, sym}
use Rattle.std.specs.Prelude.{All}
use Rattle.mx_engine.specs.Seats.{IsSeatOf}
use Rattle.mx_server.proofs.serving.workers.Goals as goal

pub workers_of-requires : goal.workers_of-requires
workers_of-requires g c = subst (λ engine. All (IsSeatOf engine) c.in_ok-engine.seats.items) (sym c.in_ok-shared.ensures) c.in_ok-engine.ensures.mine
