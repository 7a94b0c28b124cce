use Rattle.std.proofs.Common.{List, subst}
use Rattle.mx_world.specs.Calls.{Start}
use Rattle.mx_world.specs.Worlds.{IsAfter}
use Rattle.mx_world.specs.declared.steps.Step.{Step}
use Rattle.mx_log.specs.LineRuns.{IsDone}
use Rattle.mx_log.specs.Lines.{Line}
use Rattle.mx_log.specs.LinesShown.{answer_output}
use Rattle.mx_pdu.specs.Offers.{offer_by}
use Rattle.mx_log.proofs.log_servers.take_text.Goals as goal

pub returns : goal.returns
returns g c =
    let offer = offer_by (g.V.Verifier.judges c.args.verifier.now) in
    let output = answer_output c.in_ok-_answer._answer in
    let P : Line → Type 0 = λ line. (start : Start) (earlier : List Step) → IsAfter start earlier c.args.desk.now.rooms.world
    → IsDone offer c.args.server.now.name line output start earlier c.answer_line.new.desk.rooms.world in
    (output, subst P c.in_ok-line.ensures c.in_ok-_answer.ensures)
