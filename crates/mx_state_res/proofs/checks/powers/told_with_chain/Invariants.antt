use Rattle.std.proofs.Common.{◌≡◌, ◌++◌, ◌||◌, drop, filter}
use Rattle.mx_graph.specs.Graph.{auth_chain}
use Rattle.mx_graph.specs.Record.{is_in}
use Rattle.mx_state_res.proofs.checks.powers.told_with_chain.Given as goal

-- those so far, with those that are left, are all
abbrev pub invariant-loop-event : goal.invariant-loop-event
invariant-loop-event l =
    l.kept.items ++ filter (λ p. is_in l.power p || is_in (auth_chain l.graph l.power) p) (drop l.event-index l.events) ≡ filter (λ p. is_in l.power p || is_in (auth_chain l.graph l.power) p) l.events
