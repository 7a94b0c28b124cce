use Rattle.std.proofs.Common.{refl}
use Rattle.std.specs.Prelude.{codes}
use Rattle.mx_log.specs.LineOutputs.{bad_output, refused_output}
use Rattle.mx_log.specs.Lines.{bad_line, malformed_host}
use Rattle.mx_pdu.specs.Offers.{offer_by}
use Rattle.mx_log.proofs.AnswerLemmas.{nothing_done, step_done}
use Rattle.mx_log.proofs.steps.answer_line.Goals as goal

pub returns-in-Bad : goal.returns-in-Bad
returns-in-Bad g c = λ start earlier now.
    rw c.in-Bad.is
    (nothing_done (offer_by (g.V.Verifier.judges c.args.verifier.now)) c.args.server.now.name bad_line bad_output start earlier c.args.desk.now.rooms.world refl refl now)

pub returns-in-MalformedHost : goal.returns-in-MalformedHost
returns-in-MalformedHost g c = λ start earlier now.
    rw c.in-MalformedHost.is
    (nothing_done (offer_by (g.V.Verifier.judges c.args.verifier.now)) c.args.server.now.name malformed_host (refused_output (codes "malformed"))
    start earlier c.args.desk.now.rooms.world refl refl now)

pub returns-in-Ok : goal.returns-in-Ok
returns-in-Ok g c = λ start earlier now.
    rw c.in-Step.is
    (step_done (offer_by (g.V.Verifier.judges c.args.verifier.now)) c.args.server.now.name c.in-Step.step c.in-Ok.reply start earlier c.take.new.self.rooms.world
    (c.in-Ok.ensures.ok start earlier now))
