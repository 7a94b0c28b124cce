use Rattle.std.proofs.Common.{rules, ◌∙◌}
use Rattle.mx_levels.proofs.ContentLemmas.{text_field-content}
use Rattle.mx_auth.proofs.contents.content_text.Goals as goal

pub returns : goal.returns
returns c =
    let text = c.text_field.ensures ∙ text_field-content c.args.key.now _ c.args.event.now c.content.ensures c.requires in
    search rules
