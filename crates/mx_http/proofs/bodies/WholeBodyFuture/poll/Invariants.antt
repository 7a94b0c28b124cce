use Rattle.std.proofs.Common.{◌≡◌}
use Rattle.std.specs.Prelude.{None, false}
use Rattle.futures.specs.Task.{Keeps}
use Rattle.mx_http.specs.WholeBodies.{StillGives}
use Rattle.mx_http.proofs.bodies.WholeBodyFuture.poll.Given as goal

-- the body may be polled again until it has ended, its head has no fault, and what it gives now is what it was to give
abbrev pub invariant-loop : goal.invariant-loop
invariant-loop g l =
    (l.self.has_ended ≡ false → g.B.Body.can_poll l.self.body) × (l.self.fault ≡ None) × Keeps l.initial.cx l.cx
    × StillGives g.B.Body.yields l.initial.self l.self
