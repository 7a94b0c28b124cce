use Rattle.std.proofs.Common.{◌≡◌}
use Rattle.crossbeam_queue.specs.Passes.{view, IsPassOf, IsSamePass}
use Rattle.mx_dock.proofs.docks.Dock.put.Given as goal

abbrev pub invariant-loop : goal.invariant-loop
invariant-loop g l = (goal.iterator-loop g).can_next l.iterator' × (goal.iterator-loop g).is_finite l.iterator' × IsPassOf l.self.queue l.berth.pass × IsSamePass l.fn.berth.pass l.berth.pass × (view l.berth.pass ≡ view l.fn.berth.pass) × (l.left ≡ l.fn.value)
