use Rattle.std.proofs.Common.{◌≤◌, length}
use Rattle.mx_state_res.proofs.kept_resolutions.added_events.added_event.Given as goal

-- each place is one of the numbers
abbrev pub invariant-loop-left : goal.invariant-loop-left
invariant-loop-left l = l.left ≤ length l.kept.numbers.items

abbrev pub decreases-loop-left : goal.decreases-loop-left
decreases-loop-left l = l.left
