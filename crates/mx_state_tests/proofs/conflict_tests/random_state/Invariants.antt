use Rattle.std.proofs.Common.{◌<◌, length}
use Rattle.std.specs.List.{All}
use Rattle.mx_state_tests.proofs.conflict_tests.random_state.Given as goal

-- the entries so far are of the graph
abbrev pub invariant-loop-kind : goal.invariant-loop-kind
invariant-loop-kind l = All (λ e. e.1 < length l.graph) l.state
