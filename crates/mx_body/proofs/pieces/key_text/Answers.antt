use Rattle.std.proofs.Common.{ap, ◌∙◌, ◌++◌, ◌∷◌, []}
use Rattle.std.proofs.lemmas.Result.{IfOk-weaker}
use Rattle.serde_json.specs.Written.{comma_if}
use Rattle.mx_canon.specs.Canonical.{string_text}
use Rattle.mx_canon.proofs.TextLemmas.{quotation_same}
use Rattle.mx_body.proofs.pieces.key_text.Goals as goal

pub returns : goal.returns
returns c =
    IfOk-weaker c.into_bytes.result _ _
    (λ bytes took. took _ (c.write_key.ensures [] c.new-out.ensures.text)
    ∙ ap (λ k. comma_if c.args.later ++ (k ++ 58 ∷ [])) (ap string_text c.as_bytes.ensures.value ∙ quotation_same c.args.key.now))
    c.into_bytes.ensures.ok
