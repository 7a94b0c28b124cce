use Rattle.std.proofs.Common.{ap, refl, ◌∙◌, codes, option_and_then}
use Rattle.serde_json.specs.Find.{as_str}
use Rattle.mx_redact.specs.Fields.{text_field}
use Rattle.mx_pdu.specs.Event.{content_of}
use Rattle.mx_pdu.proofs.RuleContentLemmas.{field-rule_content}
use Rattle.mx_lines.proofs.refused_lines.membership_of.Goals as goal

pub returns : goal.returns
returns c =
    c.text_field.ensures ∙ ap (text_field (codes "membership")) c.content.ensures
    ∙ ap (option_and_then as_str) (field-rule_content (codes "membership") (content_of c.args.event.now) refl)
