use Rattle.std.proofs.Common.{◌≡◌, ◌++◌}
use Rattle.mx_pdu.specs.Offers.{offer_by}
use Rattle.mx_body.specs.Bodies.{texts_of}
use Rattle.mx_requests.specs.BodyEvents.{offered_in}
use Rattle.mx_requests.proofs.bodies.transactions.events_of_texts.Given as goal

-- the events so far, and those of the texts that are left
abbrev pub invariant-loop-text : goal.invariant-loop-text
invariant-loop-text g l =
    l.events.items ++ offered_in (offer_by (g.V.Verifier.judges l.fn.verifier)) (texts_of l.text-iterator.rest.items)
    ≡ offered_in (offer_by (g.V.Verifier.judges l.fn.verifier)) (texts_of l.fn.texts.items)
