use Rattle.std.proofs.Common.{[], ap, ◌∙◌}
use Rattle.mx_canon.specs.Canonical.{canonical_text}
use Rattle.mx_requests.specs.ReplyBodies.{template_data}
use Rattle.mx_requests.proofs.replies.queries.template_body.Goals as goal

pub returns : goal.returns
returns c =
    c.in_ok-bytes.ensures.ok _ (c.write_template.ensures [] c.in_ok-body.ensures.text)
    ∙ ap (λ event. canonical_text (template_data c.args.version event)) c.in_ok-event.ensures
