use Rattle.std.proofs.Common.{codes, ap, ap₂, ◌∙◌}
use Rattle.serde_json.specs.Data.{Data, object, string, put}
use Rattle.serde_json.specs.View.{members_view}
use Rattle.serde_json.proofs.Views.{members_view-insert_entry}
use Rattle.mx_redact.specs.Fields.{members_of}
use Rattle.mx_requests.proofs.replies.queries.with_origin.Goals as goal

pub returns : goal.returns
returns c =
    let before = c.into_map-event.result.entries in
    let made = members_view-insert_entry before c.in_ok-key.key c.in_ok-origin.origin in
    ap object
    (ap members_view c.in_ok-insert.ensures.entries ∙ made
    ∙ ap₂ (λ k d. put k d (members_view before)) c.in_ok-key.ensures.ok (c.in_ok-origin.ensures ∙ ap string c.as_str.ensures.text)
    ∙ ap (λ (e : Data). put (codes "origin") (string c.args.name.now) (members_of e)) c.into_map-event.ensures)
