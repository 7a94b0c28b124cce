use Rattle.std.proofs.Common.{sym, ap, ◌∙◌, subst, string_bytes}
use Rattle.json.specs.Json.{value}
use Rattle.serde_json.specs.Read.{of_json, converted}
use Rattle.mx_pdu.specs.Format.{is_well_formed}
use Rattle.mx_event_reading.specs.InOrder.{ReadsCanonical}
use Rattle.mx_event_reading.specs.EventRead.{members_of}
use Rattle.mx_event_reading.proofs.ReadLemmas.{event-as, event-formed, event-same}
use Rattle.mx_event_reading.proofs.events.read_event.Goals as goal

pub parts_of-requires : goal.parts_of-requires
parts_of-requires g c = (c.keeps_limits.ensures c.if-not-keeps_limits.false).3

pub of_parts-requires : goal.of_parts-requires
of_parts-requires g c =
    let m = c.in_ok-fields.ensures c.args.reader.now c.in_ok-text.ensures in
    let f = c.in_ok-fields.fields in
    let text = c.read_fields.new.text in
    let formed = event-formed f text _ _ m c.in_ok-parts.ensures.room c.in_ok-parts.ensures.sender
    (c.keeps_limits.ensures c.if-not-keeps_limits.false) in (
      members_of f m.content m.origin m.unsigned,
      event-as f text _ _ m (string_bytes c.in-Ok.whole) c.deref.result.now c.in_ok-parts.parts
          (ap (λ v. v.items) c.in-Ok.ensures.ok) c.deref.ensures.value formed
          (c.in_ok-parts.ensures.parts m.content m.origin m.unsigned m.known),
    )

pub returns-clause-read : goal.returns-clause-read
returns-clause-read g c =
    let m = c.in_ok-fields.ensures c.args.reader.now c.in_ok-text.ensures in
    let same = event-same c.in_ok-fields.fields c.read_fields.new.text _ _ m _ c.in_ok-offered.offered.pdu
    (ap (λ v. v.items) c.in-Ok.ensures.ok) c.in_ok-offered.ensures.pdu in
    subst (λ d. ReadsCanonical d (converted of_json (value 125 c.args.reader.now)) c.read_fields.new.reader) (sym same) m.read

pub returns-clause-formed : goal.returns-clause-formed
returns-clause-formed g c =
    let m = c.in_ok-fields.ensures c.args.reader.now c.in_ok-text.ensures in
    let f = c.in_ok-fields.fields in
    let text = c.read_fields.new.text in
    ap is_well_formed (event-same f text _ _ m _ c.in_ok-offered.offered.pdu (ap (λ v. v.items) c.in-Ok.ensures.ok)
    c.in_ok-offered.ensures.pdu)
    ∙ event-formed f text _ _ m c.in_ok-parts.ensures.room c.in_ok-parts.ensures.sender
    (c.keeps_limits.ensures c.if-not-keeps_limits.false)

pub returns-clause-offered : goal.returns-clause-offered
returns-clause-offered g c =
    let told = c.in_ok-offered.ensures in
    λ i. record { pdu = c.in_ok-offered.offered.pdu; id = told.id i; signed = told.signed i }

pub returns-clause-shorter : goal.returns-clause-shorter
returns-clause-shorter g c =
    (c.in_ok-fields.ensures c.args.reader.now c.in_ok-text.ensures).shorter
