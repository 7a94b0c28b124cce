use Rattle.std.proofs.Common.{◌≡◌, ◌≤◌, None, drop, length}
use Rattle.mx_state_res.specs.TouchedKeys.{last_put}
use Rattle.mx_state_res.proofs.kept_resolutions.standing_events.last_among.Given as goal

-- none from there on was put at the key
abbrev pub invariant-loop-left : goal.invariant-loop-left
invariant-loop-left l = record {
  within : l.left ≤ length l.order;
  none : last_put l.graph (l.kind, l.state_key) (drop l.left l.order) ≡ None;
}

abbrev pub decreases-loop-left : goal.decreases-loop-left
decreases-loop-left l = l.left
