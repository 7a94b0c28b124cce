use Rattle.std.proofs.Common.{subst}
use Rattle.mx_shard.specs.LoneRoom.{to_offer}
use Rattle.mx_engine.specs.Berths.{views_of}
use Rattle.mx_engine.specs.Calls.{IsAnswered}
use Rattle.mx_engine.proofs.TurnLemmas.{nothing_refl}
use Rattle.mx_world.proofs.RefusalLemmas.{on_err}
use Rattle.mx_engine.proofs.OfferingLemmas.{offered_by}
use Rattle.mx_engine.proofs.offering.Offering.offer_one.Goals as goal

pub returns-in_err-id-clause-err : goal.returns-in_err-id-clause-err
returns-in_err-id-clause-err g c = on_err c.from_residual.result (nothing_refl (views_of c.args.berths.now.items))

pub returns-clause-ok : goal.returns-clause-ok
returns-clause-ok g c =
    offered_by c.args.self.now.turns.caller c.args.self.now.origin.now c.args.offered.now (views_of c.args.berths.now.items)
    (views_of c.call_in.new.berths.items) c.in_ok-answer.answer c.in_ok-id.id c.outcome_of.result
    c.in_ok-id.ensures.cases c.outcome_of.ensures
    (subst (λ room. IsAnswered c.args.self.now.turns.caller (to_offer c.args.self.now.origin.now c.args.offered.now) room
    (views_of c.args.berths.now.items) (views_of c.call_in.new.berths.items) c.in_ok-answer.answer)
    c.room_id-room.ensures c.in_ok-answer.ensures.ok)
