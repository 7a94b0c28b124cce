use Rattle.std.proofs.Common.{sym, ap, ◌∙◌, map}
use Rattle.std.specs.Prelude.{option_map}
use Rattle.mx_body.specs.Bodies.{pdus_in, texts_of}
use Rattle.mx_pdu.specs.Offers.{offer_by}
use Rattle.mx_requests.specs.declared.faults.Fault.TheVariants.{NotJson}
use Rattle.mx_requests.specs.Requests.{json_of, ok_or_fault}
use Rattle.mx_requests.proofs.BodyEventLemmas.{some_events}
use Rattle.mx_requests.proofs.bodies.transactions.events_by_texts.Goals as goal

pub returns-in_ok-events-in-Ok-Some-clause-ok : goal.returns-in_ok-events-in-Ok-Some-clause-ok
returns-in_ok-events-in-Ok-Some-clause-ok g c =
    let arm = c.in-Ok-Some in
    let (d, is, texts, back) = arm.ensures.ok in
    let offer = offer_by (g.V.Verifier.judges c.args.verifier.now) in
    let here = sym (ap (option_map (λ all. map json_of (texts_of all.items))) arm.field-0-is) ∙ back in (
      d,
      ap (ok_or_fault NotJson) is,
      some_events offer (texts_of arm.texts.items) c.in_ok-events-in-Ok-Some.events.items (pdus_in d) here c.in_ok-events-in-Ok-Some.ensures,
    )
