use Rattle.std.proofs.Common.{◌≡◌, take}
use Rattle.std.specs.Prelude.{fold, max, slice_index}
use Rattle.mx_graph.proofs.depths.bound_behind.Given as goal

-- the greatest so far
abbrev pub invariant-loop-event : goal.invariant-loop-event
invariant-loop-event l = l.bound ≡ fold (λ d event. max d (slice_index l.bounds event)) l.depth (take l.event-index l.prev_events)
