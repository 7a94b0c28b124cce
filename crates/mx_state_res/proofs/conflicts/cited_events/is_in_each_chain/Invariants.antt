use Rattle.std.proofs.Common.{◌≡◌, drop, map}
use Rattle.std.specs.List.{list_all}
use Rattle.mx_graph.specs.Graph.{auth_chain}
use Rattle.mx_graph.specs.Record.{is_in}
use Rattle.mx_state_res.proofs.conflicts.cited_events.is_in_each_chain.Given as goal

-- the chains so far have the event
abbrev pub invariant-loop-others : goal.invariant-loop-others
invariant-loop-others l =
    list_all (λ others. is_in (auth_chain l.graph others) l.event) (map (λ others. others.items) l.sets)
    ≡ list_all (λ others. is_in (auth_chain l.graph others) l.event) (map (λ others. others.items) (drop l.others-index l.sets))
