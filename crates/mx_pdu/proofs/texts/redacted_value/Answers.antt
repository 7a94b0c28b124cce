use Rattle.std.proofs.Common.{IsTrue, sym, ap, ◌∙◌, subst}
use Rattle.serde_json.specs.Data.{Data}
use Rattle.serde_json.specs.View.{view}
use Rattle.serde_json.proofs.Views.{view-Object}
use Rattle.mx_canon.specs.KeyOrder.{KeysRise}
use Rattle.mx_redact.specs.Redaction.{redact}
use Rattle.mx_pdu.specs.Format.{is_well_formed}
use Rattle.mx_pdu.proofs.FormatLemmas.{formed}
use Rattle.mx_pdu.proofs.RedactionLemmas.{redact-well_formed, rise-redact}
use Rattle.mx_pdu.proofs.texts.redacted_value.Goals as goal

pub returns-clause-value : goal.returns-clause-value
returns-clause-value c = view-Object c.in_ok-members.members ∙ c.in_ok-members.ensures ∙ ap redact c.object_of.ensures

pub returns-clause-well_formed : goal.returns-clause-well_formed
returns-clause-well_formed c =
    let event = view c.args.event.now in
    let is = sym (view-Object c.in_ok-members.members ∙ c.in_ok-members.ensures ∙ ap redact c.object_of.ensures) in
    subst (λ (d : Data). IsTrue (is_well_formed d)) is (redact-well_formed event c.requires.well_formed c.requires.keys)

pub returns-clause-keys : goal.returns-clause-keys
returns-clause-keys c =
    let event = view c.args.event.now in
    let is = sym (view-Object c.in_ok-members.members ∙ c.in_ok-members.ensures ∙ ap redact c.object_of.ensures) in
    subst KeysRise is (rise-redact event (formed event c.requires.well_formed).has_object c.requires.keys)
