use Rattle.std.proofs.Common.{rules, refl, ◌∙◌}
use Rattle.std.specs.Prelude.{codes}
use Rattle.mx_levels.proofs.ContentLemmas.{text_field-content}
use Rattle.mx_levels.proofs.power_levels.is_creator.Goals as goal

pub returns-in-Some : goal.returns-in-Some
returns-in-Some c =
    let text = c.text_field.ensures ∙ text_field-content (codes "creator") _ c.in-Some.create.now c.content.ensures refl in
    search rules
