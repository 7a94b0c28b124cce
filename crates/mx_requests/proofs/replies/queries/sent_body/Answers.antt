use Rattle.std.proofs.Common.{[], ap, ◌∙◌}
use Rattle.mx_canon.specs.Canonical.{canonical_text}
use Rattle.mx_requests.specs.ReplyBodies.{sent_events}
use Rattle.mx_requests.proofs.replies.queries.sent_body.Goals as goal

pub returns : goal.returns
returns c =
    c.in_ok-bytes.ensures.ok _ (c.write_sent.ensures [] c.in_ok-body.ensures.text)
    ∙ ap (λ now. canonical_text (sent_events c.args.name.now now c.args.events.now)) c.milliseconds.ensures.same
