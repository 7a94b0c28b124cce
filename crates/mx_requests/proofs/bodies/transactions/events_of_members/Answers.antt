use Rattle.std.proofs.Common.{◌≡◌, sym, ap, ◌∙◌, codes, subst, IfOk, map, true, false, refl}
use Rattle.std.specs.Prelude.{option_map, Some, None}
use Rattle.serde_json.specs.Data.{object}
use Rattle.serde_json.specs.View.{view, members_view}
use Rattle.serde_json.specs.declared.value.Value.{Value}
use Rattle.mx_redact.specs.Fields.{field}
use Rattle.mx_pdu.specs.Offers.{offer_by}
use Rattle.mx_requests.proofs.EntryLemmas.{events-at, shown_at}
use Rattle.mx_requests.proofs.bodies.transactions.events_of_members.Goals as goal

pub returns-then-not-has_few_ephemeral_events : goal.returns-then-not-has_few_ephemeral_events
returns-then-not-has_few_ephemeral_events g c =
    let d = object (members_view c.args.members.entries) in
    let many = sym c.has_few_ephemeral_events.ensures ∙ c.if-not-has_few_ephemeral_events.true in
    sym (ap (option_map (map (offer_by (g.V.Verifier.judges c.args.verifier.now)))) (events-at d false (field (codes "pdus") d) many refl))

pub returns-in-Some : goal.returns-in-Some
returns-in-Some g c =
    let d = object (members_view c.args.members.entries) in
    let some = ap (option_map (λ (v : Value). view v)) (sym c.in-Some.is ∙ c.remove.ensures.value) ∙ shown_at (codes "pdus") c.args.members.entries in
    let few = sym c.has_few_ephemeral_events.ensures ∙ c.if-not-has_few_ephemeral_events.false in
    subst (λ found. IfOk c.events_in.result (λ events. option_map (λ events'. events'.items) events ≡ option_map (map (offer_by (g.V.Verifier.judges c.args.verifier.now))) found))
    (sym (events-at d true (Some (view c.in-Some.events)) few (sym some)))
    c.events_in.ensures

pub returns : goal.returns
returns g c =
    let d = object (members_view c.args.members.entries) in
    let none = ap (option_map (λ (v : Value). view v)) (sym c.in-None.is ∙ c.remove.ensures.value) ∙ shown_at (codes "pdus") c.args.members.entries in
    let few = sym c.has_few_ephemeral_events.ensures ∙ c.if-not-has_few_ephemeral_events.false in
    sym (ap (option_map (map (offer_by (g.V.Verifier.judges c.args.verifier.now)))) (events-at d true None few (sym none)))
