use Rattle.futures.specs.Task.{Keeps}
use Rattle.mx_http.proofs.turns.Ended.poll.Given as goal

-- the poll of a connection whose requests are over goes on
abbrev pub invariant-loop : goal.invariant-loop
invariant-loop g l = Keeps l.initial.cx l.cx
