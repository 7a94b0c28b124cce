use Rattle.std.proofs.Common.{Some, rules, sym, ap, ◌∙◌}
use Rattle.serde_json.specs.View.{view}
use Rattle.mx_pdu.specs.EventTexts.{event_of_text}
use Rattle.mx_pdu.proofs.EventTextLemmas.{no_form, reads_event}
use Rattle.mx_pdu.proofs.FormatLemmas.{formed-from-none}
use Rattle.mx_pdu.proofs.offering.Offered.from_text.Goals as goal

pub returns-in-Ok-from_canonical-clause-pdu : goal.returns-in-Ok-from_canonical-clause-pdu
returns-in-Ok-from_canonical-clause-pdu g c =
    let it = c.in_ok-value.ensures in
    let own = c.in-Ok-from_canonical.ensures in
    ap event_of_text (sym c.as_bytes.ensures.value)
    ∙ reads_event c.as_bytes.result.now (view c.in_ok-value.value) it.json it.canonical (formed-from-none _ (sym own.format)) (sym it.text)
    ∙ ap Some (sym own.pdu)

pub returns-in-Err-NotAnEvent-clause-none : goal.returns-in-Err-NotAnEvent-clause-none
returns-in-Err-NotAnEvent-clause-none g c _ =
    let it = c.in_ok-value.ensures in
    let arm = c.in-Err-NotAnEvent in
    ap event_of_text (sym c.as_bytes.ensures.value)
    ∙ no_form c.as_bytes.result.now (view c.in_ok-value.value) it.json arm.field-0-0 ((arm.ensures.refused arm.field-0-0).0 (search rules))
