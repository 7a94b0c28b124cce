use Rattle.std.proofs.Common.{List, ℕ, [], ap₂, ◌∙◌}
use Rattle.mx_reasons.specs.Because.{because_text, compared_text}
use Rattle.mx_reasons.specs.declared.comparing.Comparison.{Comparison}
use Rattle.mx_reasons.proofs.sentences.because.Goals as goal

pub returns : goal.returns
unfolding because_text
returns c =
    let j = c.args.judged.now in
    c.in_ok-bytes.ensures.ok _ (c.write_compared.ensures [] c.new-text.ensures.text)
    ∙ ap₂ (λ (k : Comparison) (sentence : List ℕ). compared_text k sentence j.sources j.event) c.compared_by.ensures c.reason.ensures
