use Rattle.std.proofs.Common.{sym, ◌∙◌}
use Rattle.mx_dock.specs.Dock.{own}
use Rattle.mx_engine.proofs.AskingLemmas.{found_turn, none_turn, refused_turn}
use Rattle.mx_engine.proofs.calls.ShardTurns.ask_one.Goals as goal

pub returns-in_err-answer-clause-turn : goal.returns-in_err-answer-clause-turn
returns-in_err-answer-clause-turn g c =
    let asked = c.args.question.now in
    refused_turn c.args.self.now.caller asked.origin.now asked.moment asked.query.now c.requires.alone (own c.args.berth.now)
    (own c.call_at.new.berth) c.from_residual.result c.in_err-answer.field-0.0 c.from_residual.ensures.1
    c.in_err-answer.ensures.turn

pub returns-then-is_shown-clause-turn : goal.returns-then-is_shown-clause-turn
returns-then-is_shown-clause-turn g c =
    let asked = c.args.question.now in
    found_turn c.args.self.now.caller asked.origin.now asked.moment asked.query.now c.requires.alone (own c.args.berth.now)
    (own c.call_at.new.berth) c.in_ok-answer.answer (sym c.is_shown.ensures ∙ c.if-is_shown.true)
    c.in_ok-answer.ensures.turn

pub returns-clause-turn : goal.returns-clause-turn
returns-clause-turn g c =
    let asked = c.args.question.now in
    none_turn c.args.self.now.caller asked.origin.now asked.moment asked.query.now c.requires.alone (own c.args.berth.now)
    (own c.call_at.new.berth) c.in_ok-answer.answer (sym c.is_shown.ensures ∙ c.if-is_shown.false)
    c.in_ok-answer.ensures.turn
