use Rattle.std.proofs.Common.{refl, inl}
use Rattle.mx_engine.specs.Seats.{book_views}
use Rattle.mx_engine.proofs.TurnLemmas.{nothing_refl}
use Rattle.mx_engine.proofs.StoppedLemmas.{at_err}
use Rattle.mx_engine.proofs.engines.Engine.transaction.Goals as goal

pub returns-in_err-offers-clause-err : goal.returns-in_err-offers-clause-err
returns-in_err-offers-clause-err g c =
    at_err c.from_residual.result _ (λ error. inl (nothing_refl (book_views c.args.seat.now), refl))
