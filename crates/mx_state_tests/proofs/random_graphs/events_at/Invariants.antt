use Rattle.std.proofs.Common.{◌<◌, All, length}
use Rattle.mx_orders.specs.Lists.{Distinct}
use Rattle.mx_state_tests.proofs.random_graphs.events_at.Given as goal

abbrev pub invariant-loop-place : goal.invariant-loop-place
invariant-loop-place l = record {
  known : All (λ event. event < length l.graph) l.found.items;
  distinct : Distinct l.found.items;
}
