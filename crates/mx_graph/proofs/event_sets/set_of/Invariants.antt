use Rattle.std.proofs.Common.{◌≡◌, ℕ, take}
use Rattle.std.specs.Ordering.{nat_cmp}
use Rattle.std.specs.BTreeSet.{contains}
use Rattle.mx_graph.specs.Record.{is_in}
use Rattle.mx_graph.proofs.event_sets.set_of.Given as goal

abbrev pub invariant-loop-event : goal.invariant-loop-event
invariant-loop-event l = (p : ℕ) → contains nat_cmp l.set p ≡ is_in (take l.event-index l.events) p
