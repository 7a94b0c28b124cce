use Rattle.std.proofs.Common.{◌≡◌, ℕ, ◌||◌, take}
use Rattle.std.specs.Ordering.{nat_cmp}
use Rattle.std.specs.BTreeSet.{contains}
use Rattle.mx_graph.specs.Record.{is_in}
use Rattle.mx_receipt.proofs.covering.wait_for.Given as goal

abbrev pub invariant-loop-event : goal.invariant-loop-event
invariant-loop-event l = (p : ℕ) → contains nat_cmp l.waiting p ≡ (contains nat_cmp l.fn.waiting p || is_in (take l.event-index l.events) p)
