use Rattle.std.proofs.Common.{◌++◌, ap, ◌∙◌}
use Rattle.std.proofs.lemmas.Result.{on_ok_weaker}
use Rattle.mx_canon.specs.Canonical.{string_text}
use Rattle.mx_canon.proofs.TextLemmas.{quotation_same}
use Rattle.mx_event_reading.proofs.in_order.sinks.append_string.Goals as goal

pub returns-clause-ok : goal.returns-clause-ok
returns-clause-ok c =
    let before = c.args.out.now.items in
    on_ok_weaker c.finish.result
    (λ took. took _ (c.write_string.ensures before c.begin-sink.ensures)
    ∙ ap (λ s. before ++ string_text s) c.as_bytes.ensures.value
    ∙ ap (λ x. before ++ x) (quotation_same c.args.text.now))
    c.finish.ensures
