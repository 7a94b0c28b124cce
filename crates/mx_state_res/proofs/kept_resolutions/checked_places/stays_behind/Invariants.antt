use Rattle.std.proofs.Common.{◌≡◌, drop}
use Rattle.mx_state_res.specs.KeptResolutions.{events_checked, state_before}
use Rattle.mx_state_res.specs.LaterResolution.{stays}
use Rattle.mx_state_res.proofs.kept_resolutions.checked_places.stays_behind.Given as goal

-- what becomes of the event is told by the events that are left
abbrev pub invariant-loop-at : goal.invariant-loop-at
invariant-loop-at l =
    stays l.checks.version l.checks.graph.now (l.put.kind.now, l.put.state_key.now) l.put.event (state_before l.checks.version l.checks.graph.now l.checks.states.now l.checks.kept.now l.place) (drop l.place (events_checked l.checks.kept.now.order.items))
    ≡ stays l.checks.version l.checks.graph.now (l.put.kind.now, l.put.state_key.now) l.put.event (state_before l.checks.version l.checks.graph.now l.checks.states.now l.checks.kept.now l.at) (drop l.at (events_checked l.checks.kept.now.order.items))
