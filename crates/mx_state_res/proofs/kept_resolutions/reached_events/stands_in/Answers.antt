use Rattle.std.proofs.Common.{◌≡◌, ℕ, eqb-true, subst, sym, true, ◌∙◌}
use Rattle.mx_pdu.specs.StateKeys.{Key}
use Rattle.mx_graph.specs.Record.{is_in}
use Rattle.mx_graph.proofs.Closure.{is_in-from}
use Rattle.mx_graph.specs.StateMap.{events_of}
use Rattle.mx_orders.proofs.Members.{in_map}
use Rattle.mx_state_res.proofs.NumberedConflictLemmas.{find-in}
use Rattle.mx_state_res.proofs.kept_resolutions.reached_events.stands_in.Goals as goal

pub returns-in-Some-get : goal.returns-in-Some-get
returns-in-Some-get c =
    let state = c.args.state.now in
    let key : Key = (c.kind.result.now, c.in-Some.state_key.now) in
    let found = c.in-Some-get.found in
    λ same.
    subst (λ p. is_in (events_of state) p ≡ true) (eqb-true found c.args.event (sym c.eq.ensures ∙ same))
    (is_in-from found (events_of state) (in_map (λ (e : Key × ℕ). e.1) (key, found) state (find-in key state found (sym c.get.ensures ∙ c.in-Some-get.is))))
