use Rattle.std.proofs.Common.{List, ap, subst, ◌∙◌}
use Rattle.mx_world.specs.Calls.{Start}
use Rattle.mx_world.specs.Worlds.{IsAfter}
use Rattle.mx_world.specs.declared.steps.Step.{Step}
use Rattle.mx_log.specs.Lines.{Line}
use Rattle.mx_log.specs.LinesShown.{answer_output}
use Rattle.mx_log.specs.declared.answers.LineRefusal.TheVariants as refusal
use Rattle.mx_log.specs.StrictLogs.{is_bad}
use Rattle.mx_log.specs.LineRuns.{IsDone, not_answered}
use Rattle.mx_pdu.specs.Offers.{offer_by}
use Rattle.mx_log.proofs.LogLemmas.{told_by}
use Rattle.mx_log.proofs.logs.answer_told.Goals as goal

pub returns-in-Err : goal.returns-in-Err
returns-in-Err g c = not_answered refusal.Step c.in_ok-write_refusal-in-Err.ensures

pub returns-in_ok-_told-in-Ok-answer_line : goal.returns-in_ok-_told-in-Ok-answer_line
returns-in_ok-_told-in-Ok-answer_line g c =
    let offer = offer_by (g.V.Verifier.judges c.args.verifier.now) in
    let output = answer_output c.in-Ok-answer_line.answer in
    let P : Line → Type 0 = λ line. (start : Start) (earlier : List Step) → IsAfter start earlier c.args.desk.now.rooms.world
    → IsDone offer c.args.server.now.name line output start earlier c.answer_line.new.desk.rooms.world in
    told_by offer c.args.server.now.name c.args.text.now output c.in_ok-_told-in-Ok-answer_line._told c.is_bad-is_bad.result
    c.args.desk.now.rooms.world c.answer_line.new.desk.rooms.world
    (g.W.Write.contents c.args.out.now) (g.W.Write.contents c.write_answer.new.out)
    c.in_ok-_told-in-Ok-answer_line.ensures.written (subst P c.in-Ok.ensures c.in-Ok-answer_line.ensures) (c.is_bad-is_bad.ensures ∙ ap is_bad c.in-Ok.ensures)

pub returns-in_ok-write_refusal-in-Err-answer_line : goal.returns-in_ok-write_refusal-in-Err-answer_line
returns-in_ok-write_refusal-in-Err-answer_line g c = not_answered c.in-Err-answer_line.refusal c.in_ok-write_refusal-in-Err-answer_line.ensures
