use Rattle.std.proofs.Common.{◌≡◌, drop}
use Rattle.mx_graph.specs.Record.{is_in}
use Rattle.mx_state_res.specs.KeptResolutions.{events_checked}
use Rattle.mx_state_res.proofs.kept_resolutions.checked_events.is_checked.Given as goal

-- the event is none of those so far
abbrev pub invariant-loop-checked : goal.invariant-loop-checked
invariant-loop-checked l = is_in (events_checked l.order) l.event ≡ is_in (events_checked (drop l.checked-index l.order)) l.event
