use Rattle.std.proofs.Common.{◌≡◌, not, filter, take}
use Rattle.mx_graph.specs.Record.{is_in}
use Rattle.mx_receipt.proofs.covering.remove_events.Given as goal

-- without those so far
abbrev pub invariant-loop-event : goal.invariant-loop-event
invariant-loop-event l = l.events.items ≡ filter (λ p. not (is_in (take l.event-index l.covered) p)) l.fn.events.items
