use Rattle.std.proofs.Common.{sym, ap, ap₂, ◌∙◌, inr, refl, Some, None}
use Rattle.std.specs.Prelude.{option_map}
use Rattle.mx_body.specs.Questions.{question_shown}
use Rattle.mx_room.specs.declared.queries.Query.TheVariants as ask
use Rattle.mx_requests.specs.declared.faults.Fault.TheVariants.{NotJson}
use Rattle.mx_requests.specs.Requests.{ok_or_fault}
use Rattle.mx_requests.proofs.QuestionLemmas.{query-is}
use Rattle.mx_requests.proofs.bodies.missing_events.missing_query.Goals as goal

pub returns-in-Ok-Some-clause-ok : goal.returns-in-Ok-Some-clause-ok
returns-in-Ok-Some-clause-ok c =
    let arm = c.in-Ok-Some in
    let (d, is, shown) = arm.ensures.ok in
    let q = arm.question in
    let asked = query-is c.args.room d (Some (question_shown q)) (sym (ap (option_map question_shown) arm.field-0-is) ∙ shown) in (
      d,
      ap (ok_or_fault NotJson) is,
      asked ∙ ap₂ (λ earliest latest. Some (ask.Missing c.args.room earliest latest q.limit q.min_depth)) (sym c.new.ensures) (sym c.new-in-Ok-Some.ensures),
    )

pub returns-in-Ok-None-clause-err : goal.returns-in-Ok-None-clause-err
returns-in-Ok-None-clause-err c =
    let arm = c.in-Ok-None in
    let (d, is, shown) = arm.ensures.ok in
    inr (inr (refl, d, ap (ok_or_fault NotJson) is, query-is c.args.room d None (sym (ap (option_map question_shown) arm.field-0-is) ∙ shown)))
