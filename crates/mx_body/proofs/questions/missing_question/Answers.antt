use Rattle.std.proofs.Common.{Some, inr, refl, sym, ap, ◌∙◌}
use Rattle.serde_json.specs.Read.{read}
use Rattle.mx_body.proofs.BodyLemmas.{has_json, has_no_json}
use Rattle.mx_body.proofs.questions.missing_question.Goals as goal

pub returns-in-Err-clause-err : goal.returns-in-Err-clause-err
returns-in-Err-clause-err c = inr (refl, has_no_json c.args.body.now c.in-Err.ensures.cases.0)

pub returns-clause-ok : goal.returns-clause-ok
returns-clause-ok c =
    let found = c.in_ok-question.ensures.ok in
    let text = ap read (sym c.in-Ok.ensures.cases.0) ∙ found.read in
    (found.value, has_json c.args.body.now (Some found.value) c.in-Ok.ensures.cases.1 text, found.question_is)
