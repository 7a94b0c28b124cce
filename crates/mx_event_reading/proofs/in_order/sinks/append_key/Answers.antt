use Rattle.std.proofs.Common.{◌++◌, ◌∷◌, [], ap, ◌∙◌, append_assoc}
use Rattle.std.proofs.lemmas.Result.{on_ok_weaker}
use Rattle.serde_json.specs.Written.{comma_if}
use Rattle.mx_canon.specs.Canonical.{string_text}
use Rattle.mx_canon.proofs.TextLemmas.{quotation_same}
use Rattle.mx_event_reading.proofs.in_order.sinks.append_key.Goals as goal

pub returns-clause-ok : goal.returns-clause-ok
returns-clause-ok c =
    let before = c.args.out.now.items in
    let comma = comma_if c.args.later in
    on_ok_weaker c.finish.result
    (λ took. took _ (c.write_key.ensures before c.begin-sink.ensures)
    ∙ ap (λ k. (before ++ comma) ++ (k ++ 58 ∷ [])) (ap string_text c.as_bytes.ensures.value ∙ quotation_same c.args.key.now)
    ∙ append_assoc before comma _)
    c.finish.ensures
