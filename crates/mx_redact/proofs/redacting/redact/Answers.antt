use Rattle.std.proofs.Common.{ap, ◌∙◌}
use Rattle.serde_json.specs.Data.{object}
use Rattle.serde_json.specs.View.{members_view}
use Rattle.mx_redact.specs.Selected.{selected}
use Rattle.mx_redact.specs.declared.selections.Selection.TheVariants.{Redacted}
use Rattle.mx_redact.proofs.SelectedLemmas.{selected-redact}
use Rattle.mx_redact.proofs.redacting.redact.Goals as goal

pub returns : goal.returns
returns c =
    let ms = members_view c.args.event.now.entries in
    ap object c.in_ok-redacted.ensures ∙ ap (λ kept. object (selected (Redacted kept) ms)) c.kept_content_in.ensures ∙ selected-redact ms
