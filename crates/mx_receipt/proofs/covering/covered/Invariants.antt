use Rattle.std.proofs.Common.{◌≡◌, ◌<◌, ℕ, List, length, true}
use Rattle.std.specs.Ordering.{nat_cmp}
use Rattle.std.specs.BTreeSet.{contains}
use Rattle.mx_graph.specs.Record.{is_in}
use Rattle.mx_graph.proofs.WalkLemmas.{above, IsWalk}
use Rattle.mx_receipt.specs.Judgements.{leads_further}
use Rattle.mx_receipt.proofs.covering.covered.Given as goal

-- what was found is what a walk took
abbrev pub invariant-loop-event : goal.invariant-loop-event
invariant-loop-event l = (taken : List ℕ)
    × IsWalk (leads_further l.graph l.judgements) (is_in l.prev_events) taken (contains nat_cmp l.waiting)
    × ((p : ℕ) → is_in l.found.items p ≡ is_in taken p)
    × ((p : ℕ) → contains nat_cmp l.waiting p ≡ true → p < length l.graph)

abbrev pub decreases-loop-event : goal.decreases-loop-event
decreases-loop-event l = above l.waiting.keys
