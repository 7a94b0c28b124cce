use Rattle.std.proofs.Common.{◌≡◌, ap, bytes_eq, option_map, arith}
use Rattle.std.proofs.lemmas.Map.Text.{text_keys}
use Rattle.mx_graph.specs.Record.{names_id}
use Rattle.mx_graph.proofs.RedactionLemmas.{names-target}
use Rattle.mx_graph.proofs.redactions.RedactionIndex.add.Goals as goal

pub returns-in_err-push-clause-err : goal.returns-in_err-push-clause-err
returns-in_err-push-clause-err c = grind (arith, text_keys)

pub returns-in_ok-push-clause-ok : goal.returns-in_ok-push-clause-ok
returns-in_ok-push-clause-ok c = λ id.
    let names : names_id id c.args.event.now ≡ bytes_eq c.in-Some.target.now id = names-target c.args.event.now _ c.redaction_target.ensures c.in-Some.target.now (ap (option_map (λ t. t.now)) c.in-Some.is) id in
    grind (arith, text_keys, names)
