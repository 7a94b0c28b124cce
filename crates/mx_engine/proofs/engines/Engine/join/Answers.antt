use Rattle.mx_engine.specs.Seats.{shard_views}
use Rattle.mx_engine.proofs.TurnLemmas.{nothing_refl}
use Rattle.mx_engine.proofs.SeatLemmas.{when_err}
use Rattle.mx_engine.proofs.engines.Engine.join.Goals as goal

pub returns-in_err-offered-clause-err : goal.returns-in_err-offered-clause-err
returns-in_err-offered-clause-err g c = when_err c.from_residual.result (nothing_refl (shard_views c.args.seat.now))
