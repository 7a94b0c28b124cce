use Rattle.std.proofs.Common.{ap, ◌∙◌}
use Rattle.mx_redact.specs.Fields.{field}
use Rattle.mx_pdu.specs.Event.{content_of}
use Rattle.mx_pdu.proofs.RuleContentLemmas.{field-rule_content}
use Rattle.mx_auth.proofs.contents.content_field.Goals as goal

pub returns : goal.returns
returns c =
    c.field.ensures ∙ ap (field c.args.key.now) c.content.ensures
    ∙ field-rule_content c.args.key.now (content_of c.args.event.now) c.requires
