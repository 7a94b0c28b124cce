use Rattle.std.proofs.Common.{take}
use Rattle.mx_state_res.specs.KeptResolutions.{AllCiteReached, events_checked}
use Rattle.mx_state_res.proofs.kept_resolutions.reached_events.cite_reached.Given as goal

-- what those at the keys so far cite is reached
abbrev pub invariant-loop-entry : goal.invariant-loop-entry
invariant-loop-entry l = AllCiteReached l.graph (events_checked l.order) l.state l.other (take l.entry-index l.entries)
