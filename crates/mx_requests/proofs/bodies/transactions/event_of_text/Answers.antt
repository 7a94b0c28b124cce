use Rattle.std.proofs.Common.{◌≡◌, Some, None, if◌then◌else◌, sym, ap, ◌∙◌}
use Rattle.std.specs.Prelude.{option_and_then}
use Rattle.mx_pdu.specs.Offers.{offer_by}
use Rattle.mx_pdu.proofs.EventTextLemmas.{event-read}
use Rattle.mx_requests.specs.BodyEvents.{offered_if_formed}
use Rattle.mx_requests.specs.Requests.{json_of}
use Rattle.mx_requests.proofs.JsonLemmas.{has_no_json}
use Rattle.mx_requests.proofs.bodies.transactions.event_of_text.Goals as goal

pub returns-in_default : goal.returns-in_default
returns-in_default g c =
    let offer = offer_by (g.V.Verifier.judges c.args.verifier.now) in
    sym (ap (option_and_then (offered_if_formed offer)) (has_no_json c.args.text.now (λ utf8. absurd (c.in_default.ensures.cases.0 utf8))))

pub returns-in-Ok-from_text : goal.returns-in-Ok-from_text
returns-in-Ok-from_text g c =
    let offer = offer_by (g.V.Verifier.judges c.args.verifier.now) in
    let event = c.in-Ok-from_text.event in
    let own = c.in-Ok-from_text.ensures in
    let it = event-read c.in-Ok.own.now event.pdu own.pdu in
    let json : json_of c.args.text.now ≡ Some event.pdu = ap json_of (sym c.in-Ok.ensures.cases.0) ∙ it.0 in
    let same : event ≡ offer event.pdu = λ i. record { pdu = event.pdu; id = own.id i; signed = own.signed i } in
    ap Some same
    ∙ sym (ap (option_and_then (offered_if_formed offer)) json ∙ ap (λ b. if b then Some (offer event.pdu) else None) it.1)
