use Rattle.std.proofs.Common.{codes, refl, ◌∙◌}
use Rattle.mx_levels.proofs.ContentLemmas.{text_field-content}
use Rattle.mx_reasons.proofs.facts.join_rule_of.Goals as goal

pub returns : goal.returns
returns c = c.text_field.ensures ∙ text_field-content (codes "join_rule") _ c.args.event.now c.content.ensures refl
