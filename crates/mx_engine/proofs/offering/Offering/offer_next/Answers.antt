use Rattle.mx_world.proofs.RefusalLemmas.{on_err}
use Rattle.mx_engine.specs.Berths.{views_of}
use Rattle.mx_engine.proofs.TurnLemmas.{nothing_refl}
use Rattle.mx_engine.proofs.offering.Offering.offer_next.Goals as goal

pub returns-in_err-reserve-clause-err : goal.returns-in_err-reserve-clause-err
returns-in_err-reserve-clause-err g c = on_err c.from_residual.result (nothing_refl (views_of c.args.berths.now.items))
