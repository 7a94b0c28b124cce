use Rattle.std.proofs.Common.{◌≡◌, sym, ap, Err, is_none, false, Some, None, if◌then◌else◌}
use Rattle.serde_json.specs.View.{view}
use Rattle.mx_pdu.specs.Format.{is_well_formed}
use Rattle.mx_pdu.specs.Offers.{offer_by}
use Rattle.mx_requests.proofs.BodyEventLemmas.{canonical_written, no_event}
use Rattle.mx_requests.proofs.bodies.transactions.well_formed.Goals as goal

pub from_canonical-requires-clause-text : goal.from_canonical-requires-clause-text
from_canonical-requires-clause-text g c = canonical_written (view c.args.value) _ c.in-Ok.ensures.answer c.in-Ok.ensures.keys c.in_ok-text.ensures.text

pub returns-in_default : goal.returns-in_default
returns-in_default g c =
    let other : is_well_formed (view c.args.value) ≡ false = no_event (view c.args.value) c.in_default.field-0 c.in_default.ensures.answer in
    sym (ap (λ b. if b then Some (offer_by (g.V.Verifier.judges c.args.verifier.now) (view c.args.value)) else None) other)

pub returns-in-Err-NotAnEvent : goal.returns-in-Err-NotAnEvent
unfolding is_well_formed
returns-in-Err-NotAnEvent g c =
    let arm = c.in-Err-NotAnEvent in
    let other : is_well_formed (view c.args.value) ≡ false = ap is_none ((arm.ensures.refused arm.field-0-0).0 (ap Err arm.field-0-is)) in
    sym (ap (λ b. if b then Some (offer_by (g.V.Verifier.judges c.args.verifier.now) (view c.args.value)) else None) other)
