use Rattle.std.proofs.Common.{◌≡◌}
use Rattle.crossbeam_queue.specs.Passes.{view, IsPassOf, IsSamePass}
use Rattle.mx_dock.proofs.passes.put_first.Given as goal

abbrev pub invariant-loop : goal.invariant-loop
invariant-loop g l = (goal.iterator-loop g).can_next l.iterator' × (goal.iterator-loop g).is_finite l.iterator' × IsPassOf l.queue l.pass × IsSamePass l.fn.pass l.pass × (view l.pass ≡ view l.fn.pass) × (l.left ≡ l.fn.value)
