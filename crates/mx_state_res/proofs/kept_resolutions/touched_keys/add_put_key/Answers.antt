use Rattle.std.proofs.Common.{◌≡◌, None, Some, false, true, ap, subst, sym, ◌∙◌}
use Rattle.std.specs.Prelude.{is_some, option_map}
use Rattle.mx_redact.specs.Fields.{kind}
use Rattle.mx_pdu.specs.StateKeys.{Key}
use Rattle.mx_auth.specs.Rules.{key_of}
use Rattle.mx_graph.specs.Record.{Row, event}
use Rattle.mx_graph.specs.StateMap.{State, entry}
use Rattle.mx_state_res.specs.TouchedKeys.{HasPutKey, checked_event}
use Rattle.mx_state_res.proofs.KeptResolutionLemmas.{row-key}
use Rattle.mx_state_res.proofs.TouchedLemmas.{has-put, no-key, not-put, put-key}
use Rattle.mx_state_res.proofs.kept_resolutions.touched_keys.add_put_key.Goals as goal

pub returns-clause-added : goal.returns-clause-added
returns-clause-added c =
    let rows = c.args.graph.now in
    let own : Key = (c.kind-kind.result.now, c.in-Some.state_key.now) in
    let is : key_of (event rows c.args.event) ≡ Some own =
    ap (λ (r : Row). key_of r.event) (sym c.row.ensures) ∙ row-key c.row.result.now.event c.kind-kind.result.now c.in-Some.state_key.now c.kind-kind.ensures c.in-Some.ensures in
    subst (λ (s : State). HasPutKey rows s (checked_event c.args.event c.args.is_put)) (sym c.in_ok-insert.ensures.ok) (put-key rows c.args.keys.now c.args.event c.args.is_put own c.args.event is)

pub returns-clause-stay : goal.returns-clause-stay
returns-clause-stay c =
    λ q e. subst (λ (s : State). is_some (entry s q) ≡ true) (sym c.in_ok-insert.ensures.ok) (has-put (c.kind-kind.result.now, c.in-Some.state_key.now) c.args.event c.args.keys.now q e)
