use Rattle.std.proofs.Common.{◌≡◌, IfOk, sym, ap, rules, subst}
use Rattle.std.specs.Prelude.{option_and_then}
use Rattle.serde_json.specs.View.{view}
use Rattle.mx_pdu.specs.Offers.{offer_by}
use Rattle.mx_requests.specs.BodyEvents.{offered_if_formed}
use Rattle.mx_requests.proofs.JsonLemmas.{has_json, has_no_json}
use Rattle.mx_requests.proofs.bodies.transactions.event_of_json.Goals as goal

pub returns-in-Ok : goal.returns-in-Ok
returns-in-Ok g c =
    let offer = offered_if_formed (offer_by (g.V.Verifier.judges c.args.verifier.now)) in
    subst (λ o. IfOk c.well_formed-in-Ok.result (λ event. event ≡ option_and_then offer o)) (sym (has_json c.args.text.now (view c.in-Ok.value) c.in-Ok.ensures.ok.0 c.in-Ok.ensures.ok.1)) c.well_formed-in-Ok.ensures

pub returns-else-is_memory : goal.returns-else-is_memory
returns-else-is_memory g c =
    sym (ap (option_and_then (offered_if_formed (offer_by (g.V.Verifier.judges c.args.verifier.now)))) (has_no_json c.args.text.now (c.in-Err.ensures.err (search rules))))
