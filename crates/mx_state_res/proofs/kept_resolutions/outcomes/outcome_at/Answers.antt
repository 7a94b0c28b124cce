use Rattle.std.proofs.Common.{◌≡◌, Some, drop, true, sym, subst, ap, ◌∙◌}
use Rattle.std.specs.Prelude.{IfSome}
use Rattle.mx_pdu.specs.StateKeys.{Key}
use Rattle.mx_auth.specs.Rules.{key_of}
use Rattle.mx_graph.specs.Record.{Row, event}
use Rattle.mx_state_res.specs.LaterResolution as later
use Rattle.mx_state_res.specs.KeptResolutions.{IsOutcome, events_checked, state_before}
use Rattle.mx_state_res.proofs.KeptResolutionLemmas.{row-key}
use Rattle.mx_state_res.proofs.NeedLemmas.{outcome-put}
use Rattle.mx_state_res.proofs.kept_resolutions.outcomes.outcome_at.Goals as goal

pub returns : goal.returns
returns c =
    let checks = c.args.checks.now in
    let v = checks.version in
    let rows = checks.graph.now in
    let x = c.args.event in
    let s = state_before v rows checks.states.now checks.kept.now c.args.place in
    let after = drop c.args.place (events_checked checks.kept.now.order.items) in
    let own : Key = (c.kind-kind.result.now, c.in-Some.state_key.now) in
    let row_is : key_of (event rows x) ≡ Some own = ap (λ (r : Row). key_of r.event) (sym c.row.ensures) ∙ row-key c.row.result.now.event c.kind-kind.result.now c.in-Some.state_key.now c.kind-kind.ensures c.in-Some.ensures in
    λ key at.
    let is : own ≡ key = cc (sym row_is ∙ at) in
    let told : later.stays v rows own x s after ≡ Some c.in-Some-2.is_last =
    subst (λ o. IfSome o (λ here. later.stays v rows own x s after ≡ Some here)) c.in-Some-2.is c.in_ok-is_last.ensures in
    subst (IsOutcome v rows key x s after) (sym c.of_put.ensures)
    (outcome-put v rows key x s after c.in-Some-2.is_last (sym c.in_ok-is_put_at_place.ensures ∙ c.if-not-branch.false) (ap (λ k. later.stays v rows k x s after) (sym is) ∙ told))
