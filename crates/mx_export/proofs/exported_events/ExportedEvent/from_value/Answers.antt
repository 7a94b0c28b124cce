use Rattle.std.proofs.Common.{◌≡◌, ◌↔◌, sym, ap, ◌∙◌, Result, Ok, Err, IsErrAnd, IsErrOf}
use Rattle.serde_json.specs.View.{view}
use Rattle.mx_redact.specs.Hashes.{event_id}
use Rattle.mx_pdu.proofs.FormatLemmas.{formed-from-none}
use Rattle.mx_pdu.specs.declared.refusals.NotAnEvent.{NotAnEvent as Cause}
use Rattle.mx_pdu.specs.declared.refusals.PduError.{PduError}
use Rattle.mx_export.proofs.exported_events.ExportedEvent.from_value.Goals as goal

pub of_checked-requires-clause-well_formed : goal.of_checked-requires-clause-well_formed
of_checked-requires-clause-well_formed c = formed-from-none (view c.args.value.now) (sym c.in_ok-text.ensures.format)

pub object_of-requires : goal.object_of-requires
object_of-requires c = formed-from-none (view c.args.value.now) (sym c.in_ok-text.ensures.format)

pub of_checked-requires-clause-id : goal.of_checked-requires-clause-id
of_checked-requires-clause-id c = c.in_ok-id.ensures ∙ ap event_id c.object_of.ensures

-- an error that is handed on
handed_on : {S T : Type 0} (r : Result S PduError) (p : Result T PduError) (e : PduError) (cause : Cause) → p ≡ Err e → IsErrAnd r (λ a. a ≡ e)
    → IsErrOf r (PduError.NotAnEvent cause) ↔ IsErrOf p (PduError.NotAnEvent cause)
handed_on (Ok x) p e cause was is = absurd is
handed_on (Err a) p e cause was is = (λ h. cc (was, is, h), λ h. cc (was, is, h))

pub returns-in_err-text-clause-refused : goal.returns-in_err-text-clause-refused
returns-in_err-text-clause-refused c = λ cause.
    let (there, back) = c.text_of_value.ensures.refused cause in
    let (to, from) = handed_on c.from_residual.result c.text_of_value.result c.in_err-text.field-0.0 cause c.in_err-text.was c.from_residual.ensures.1 in
    (λ h. there (to h), λ h. from (back h))
