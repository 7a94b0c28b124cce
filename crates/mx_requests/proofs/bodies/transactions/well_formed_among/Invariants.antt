use Rattle.std.proofs.Common.{◌≡◌, ◌++◌, map, filter}
use Rattle.serde_json.specs.View.{view}
use Rattle.serde_json.specs.declared.value.Value.{Value}
use Rattle.mx_pdu.specs.Format.{is_well_formed}
use Rattle.mx_pdu.specs.Offers.{offer_by}
use Rattle.mx_requests.proofs.bodies.transactions.well_formed_among.Given as goal

abbrev pub invariant-loop-entry : goal.invariant-loop-entry
invariant-loop-entry g l =
    l.events.items ++ map (offer_by (g.V.Verifier.judges l.fn.verifier)) (filter is_well_formed (map (λ (v : Value). view v) l.entry-iterator.rest.items))
    ≡ map (offer_by (g.V.Verifier.judges l.fn.verifier)) (filter is_well_formed (map (λ (v : Value). view v) l.fn.entries.items))
