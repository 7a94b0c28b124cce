use Rattle.std.proofs.Common.{◌≡◌, ◌^◌, ◌-◌, drop}
use Rattle.mx_orders.specs.Ties.{least_power}
use Rattle.mx_orders.proofs.tied_positions.oldest_power_levels_event.Given as goal

-- the least so far, with that of the events that are left, is the least of all
abbrev pub invariant-loop-event : goal.invariant-loop-event
invariant-loop-event l = least_power l.graph l.oldest (drop l.event-index l.events) ≡ least_power l.graph (2 ^ 32 - 1) l.events
