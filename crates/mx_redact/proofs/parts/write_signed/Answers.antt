use Rattle.std.proofs.Common.{◌++◌, ap, ◌∙◌, subst}
use Rattle.serde_json.specs.Data.{object}
use Rattle.serde_json.specs.View.{members_view}
use Rattle.mx_canon.specs.Canonical.{canonical_text}
use Rattle.mx_redact.specs.Selected.{selected}
use Rattle.mx_redact.specs.declared.selections.Selection.TheVariants.{Signed}
use Rattle.mx_redact.proofs.SelectedLemmas.{selected-signed_part}
use Rattle.mx_redact.proofs.parts.write_signed.Goals as goal

pub returns : goal.returns
returns g c = λ taken had.
    let ms = members_view c.args.event.now.entries in
    subst (λ d. g.S.TextSink.has_taken c.write_selected.new.sink (taken ++ canonical_text d))
    (ap (λ kept. object (selected (Signed kept) ms)) c.kept_content_in.ensures ∙ selected-signed_part ms)
    (c.write_selected.ensures taken had)
