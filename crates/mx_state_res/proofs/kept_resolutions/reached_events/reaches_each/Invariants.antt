use Rattle.std.proofs.Common.{◌≡◌, ℕ, take, true}
use Rattle.std.specs.List.{All}
use Rattle.mx_state_res.specs.KeptResolutions.{events_checked}
use Rattle.mx_state_res.specs.LaterResolution.{is_reached}
use Rattle.mx_state_res.proofs.kept_resolutions.reached_events.reaches_each.Given as goal

-- the events so far are reached
abbrev pub invariant-loop-event : goal.invariant-loop-event
invariant-loop-event l = All (λ (event : ℕ). is_reached l.graph (events_checked l.order) l.other event ≡ true) (take l.event-index l.events)
