use Rattle.std.proofs.Common.{◌<◌, ℕ, All, sym, ap, subst, ◌∙◌}
use Rattle.std.proofs.lemmas.List.Elements.{All-map}
use Rattle.mx_pdu.specs.StateKeys.{Key}
use Rattle.mx_graph.specs.StateMap.{events_of}
use Rattle.mx_states.proofs.states.state_refs.StateRef.events.Goals as goal

pub returns-clause-known : goal.returns-clause-known
returns-clause-known c bound known =
    subst (All (λ event. event < bound)) (sym (c.in_ok-events.ensures ∙ ap events_of c.self.view_is))
    (All-map (λ event. event < bound) (λ (e : Key × ℕ). e.1) _ known)
