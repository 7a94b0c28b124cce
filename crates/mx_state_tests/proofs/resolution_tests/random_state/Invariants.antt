use Rattle.std.proofs.Common.{◌<◌, length}
use Rattle.std.specs.List.{All}
use Rattle.mx_state_tests.proofs.resolution_tests.random_state.Given as goal

-- the entries so far are of the graph
abbrev pub invariant-loop-number : goal.invariant-loop-number
invariant-loop-number l = All (λ e. e.1 < length l.graph) l.state
