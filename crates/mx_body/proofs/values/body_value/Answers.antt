use Rattle.std.proofs.Common.{inr, refl, sym, ap, ◌∙◌, Some}
use Rattle.serde_json.specs.Read.{read}
use Rattle.serde_json.specs.View.{view}
use Rattle.mx_body.proofs.BodyLemmas.{has_json, has_no_json}
use Rattle.mx_body.proofs.values.body_value.Goals as goal

pub returns-in-Err-clause-err : goal.returns-in-Err-clause-err
returns-in-Err-clause-err c = inr (refl, has_no_json c.args.body.now c.in-Err.ensures.cases.0)

pub returns-clause-ok : goal.returns-clause-ok
returns-clause-ok c =
    has_json c.args.body.now (Some (view c.in_ok-value.value)) c.in-Ok.ensures.cases.1 (ap read (sym c.in-Ok.ensures.cases.0) ∙ c.in_ok-value.ensures.ok)
