use Rattle.std.proofs.Common.{Some, inr, refl, sym, ap, ◌∙◌}
use Rattle.serde_json.specs.Read.{read}
use Rattle.mx_body.proofs.BodyLemmas.{has_json, has_no_json, shallow-read}
use Rattle.mx_body.proofs.TransactionLemmas.{read_back}
use Rattle.mx_body.proofs.transactions.transaction_texts.Goals as goal

pub returns-in-Err-clause-err : goal.returns-in-Err-clause-err
returns-in-Err-clause-err c = inr (refl, has_no_json c.args.body.now c.in-Err.ensures.cases.0)

pub returns-clause-ok : goal.returns-clause-ok
returns-clause-ok c =
    let found = c.in_ok-texts.ensures.ok in
    let d = found.value in
    let text = ap read (sym c.in-Ok.ensures.cases.0) ∙ found.read in (
      d,
      has_json c.args.body.now (Some d) c.in-Ok.ensures.cases.1 text,
      found.texts_are,
      read_back c.args.largest d c.in_ok-texts.texts found.readable (shallow-read c.args.body.now d text) found.texts_are,
    )
