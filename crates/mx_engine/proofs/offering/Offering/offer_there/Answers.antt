use Rattle.std.proofs.Common.{Some}
use Rattle.mx_dock.specs.Dock.{own}
use Rattle.mx_pdu.specs.Event.{room_of}
use Rattle.mx_shard.specs.LoneRoom.{to_offer}
use Rattle.mx_world.proofs.RefusalLemmas.{on_err}
use Rattle.mx_engine.proofs.OfferingLemmas.{offered_there, turned_same_view, refused_there, nothing_there}
use Rattle.mx_engine.proofs.offering.Offering.offer_there.Goals as goal

pub returns-in_err-id-clause-err : goal.returns-in_err-id-clause-err
returns-in_err-id-clause-err g c = on_err c.from_residual.result (nothing_there (own c.args.berth.now))

pub returns-in_err-answer-clause-same : goal.returns-in_err-answer-clause-same
returns-in_err-answer-clause-same g c =
    turned_same_view c.args.self.now.turns.caller (to_offer c.args.self.now.origin.now c.args.offered.now)
    (Some (room_of c.args.offered.now.pdu)) (own c.args.berth.now) (own c.call_at.new.berth) c.call_at.result
    c.call_at.ensures.turn

pub returns-in_err-answer-clause-err : goal.returns-in_err-answer-clause-err
returns-in_err-answer-clause-err g c =
    on_err c.from_residual-in_err-answer.result
    (refused_there c.args.self.now.turns.caller (to_offer c.args.self.now.origin.now c.args.offered.now)
    (Some (room_of c.args.offered.now.pdu)) (own c.args.berth.now) (own c.call_at.new.berth) _
    c.in_err-answer.ensures.turn)

pub returns-clause-same : goal.returns-clause-same
returns-clause-same g c =
    turned_same_view c.args.self.now.turns.caller (to_offer c.args.self.now.origin.now c.args.offered.now)
    (Some (room_of c.args.offered.now.pdu)) (own c.args.berth.now) (own c.call_at.new.berth) c.call_at.result
    c.call_at.ensures.turn

pub returns-clause-ok : goal.returns-clause-ok
returns-clause-ok g c =
    offered_there c.args.self.now.turns.caller c.args.self.now.origin.now c.args.offered.now (own c.args.berth.now)
    (own c.call_at.new.berth) c.in_ok-answer.answer c.in_ok-id.id c.outcome_of.result c.in_ok-id.ensures.cases
    c.outcome_of.ensures c.in_ok-answer.ensures.turn
