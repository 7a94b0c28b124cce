use Rattle.std.proofs.Common.{sym, ap, ◌∙◌}
use Rattle.mx_body.specs.Bodies.{bytes_of}
use Rattle.mx_pdu.specs.Offers.{offer_by}
use Rattle.mx_requests.specs.declared.faults.Fault.TheVariants.{NotJson}
use Rattle.mx_requests.specs.Requests.{ok_or_fault}
use Rattle.mx_requests.proofs.BodyEventLemmas.{no_text}
use Rattle.mx_requests.proofs.bodies.transactions.event_by_text.Goals as goal

pub returns-in-Ok-None-clause-ok : goal.returns-in-Ok-None-clause-ok
returns-in-Ok-None-clause-ok g c =
    let (d, is, text) = c.in-Ok-None.ensures.ok in
    (d, ap (ok_or_fault NotJson) is, no_text (offer_by (g.V.Verifier.judges c.args.verifier.now)) d (sym (ap bytes_of c.in-Ok-None.field-0-is) ∙ text))
