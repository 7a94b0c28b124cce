use Rattle.std.proofs.Common.{◌≡◌, ◌<◌, ◌≤◌, ◌+◌, ◌-◌, ℕ, true, false, length, slice_index_or}
use Rattle.std.specs.Ordering.{is_gt}
use Rattle.mx_orders.specs.Mainline.{mainline, mainline_cmp}
use Rattle.mx_state_res.specs.KeptResolutions.{events_checked}
use Rattle.mx_state_res.proofs.kept_resolutions.added_places.place_of.Given as goal

-- what lies before the place comes before the event, and what lies behind it after
abbrev pub invariant-loop-low : goal.invariant-loop-low
invariant-loop-low l = record {
  within : l.low ≤ l.high;
  below : l.high ≤ length l.order;
  before : (k : ℕ) → l.low ≡ k + 1 → is_gt (mainline_cmp l.graph (mainline l.graph l.power) l.event (slice_index_or (events_checked l.order) k 0)) ≡ true;
  behind : l.high < length l.order → is_gt (mainline_cmp l.graph (mainline l.graph l.power) l.event (slice_index_or (events_checked l.order) l.high 0)) ≡ false;
}

abbrev pub decreases-loop-low : goal.decreases-loop-low
decreases-loop-low l = l.high - l.low
