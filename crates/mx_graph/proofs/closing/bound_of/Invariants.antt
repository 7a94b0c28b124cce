use Rattle.std.proofs.Common.{◌≡◌, ◌<◌, ◌≤◌, ◌^◌, ℕ, true, take}
use Rattle.mx_graph.specs.Record.{is_in}
use Rattle.mx_graph.proofs.closing.bound_of.Given as goal

-- those so far
abbrev pub invariant-loop-event : goal.invariant-loop-event
invariant-loop-event l = record {
  few : l.bound ≤ 2 ^ 32;
  within : (p : ℕ) → is_in (take l.event-index l.events) p ≡ true → p < l.bound;
}
