use Rattle.std.proofs.Common.{◌≤◌, length}
use Rattle.mx_state_res.proofs.kept_resolutions.reached_events.is_cited.Given as goal

abbrev pub invariant-loop-entry : goal.invariant-loop-entry
invariant-loop-entry l = l.entry-index ≤ length l.entries
