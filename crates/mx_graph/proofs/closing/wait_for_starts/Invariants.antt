use Rattle.std.proofs.Common.{◌≡◌, ℕ, ◌||◌, take}
use Rattle.std.specs.Ordering.{nat_cmp}
use Rattle.std.specs.BTreeSet.{contains}
use Rattle.std.specs.List.{list_any}
use Rattle.mx_graph.specs.Edges.{cited}
use Rattle.mx_graph.specs.Record.{is_in}
use Rattle.mx_graph.proofs.closing.wait_for_starts.Given as goal

abbrev pub invariant-loop-start : goal.invariant-loop-start
invariant-loop-start l = (p : ℕ) → contains nat_cmp l.waiting p ≡ (contains nat_cmp l.fn.waiting p || list_any (λ s. is_in (cited l.edges s) p) (take l.start-index l.starts))
