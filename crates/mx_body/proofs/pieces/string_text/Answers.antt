use Rattle.std.proofs.Common.{ap, ◌∙◌, []}
use Rattle.std.proofs.lemmas.Result.{IfOk-weaker}
use Rattle.mx_canon.specs.Canonical.{string_text}
use Rattle.mx_canon.proofs.TextLemmas.{quotation_same}
use Rattle.mx_body.proofs.pieces.string_text.Goals as goal

pub returns : goal.returns
returns c =
    IfOk-weaker c.into_bytes.result _ _
    (λ bytes took. took _ (c.write_string.ensures [] c.new-out.ensures.text) ∙ ap string_text c.as_bytes.ensures.value ∙ quotation_same c.args.text.now)
    c.into_bytes.ensures.ok
