use Rattle.std.proofs.Common.{◌≡◌, rules, ap, ◌∙◌}
use Rattle.std.specs.Prelude.{pos, unwrap_or}
use Rattle.serde_json.specs.Data.{object}
use Rattle.serde_json.specs.View.{members_view}
use Rattle.mx_pdu.specs.Event.{timestamp_of}
use Rattle.mx_pdu.proofs.FormatLemmas.{timestamp-is}
use Rattle.mx_pdu.proofs.lookups.timestamp_in.Goals as goal

pub returns : goal.returns
returns c =
    let event = object (members_view c.args.fields.now.members.now.entries) in
    let e : c.unwrap_or.result ≡ timestamp_of event =
    c.unwrap_or.ensures ∙ ap (λ o. unwrap_or o (pos 0)) c.integer_at.ensures ∙ timestamp-is event c.requires in
    search (rules, e)
