use Rattle.std.proofs.Common.{rules, refl, ◌∙◌}
use Rattle.std.specs.Prelude.{codes}
use Rattle.mx_levels.proofs.ContentLemmas.{text_field-content}
use Rattle.mx_access.proofs.visibilities.visibility_in.Goals as goal

pub returns-in-Some : goal.returns-in-Some
returns-in-Some c =
    let name = c.text_field.ensures ∙ text_field-content (codes "history_visibility") _ c.in-Some.event.now c.content.ensures refl in
    search rules
