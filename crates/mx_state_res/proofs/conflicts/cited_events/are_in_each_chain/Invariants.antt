use Rattle.std.proofs.Common.{◌≡◌, true, map, take}
use Rattle.std.specs.List.{All, list_all}
use Rattle.mx_graph.specs.Graph.{auth_chain}
use Rattle.mx_graph.specs.Record.{is_in}
use Rattle.mx_state_res.proofs.conflicts.cited_events.are_in_each_chain.Given as goal

-- those so far are
abbrev pub invariant-loop-event : goal.invariant-loop-event
invariant-loop-event l =
    All (λ event. list_all (λ others. is_in (auth_chain l.graph others) event) (map (λ others. others.items) l.sets) ≡ true) (take l.event-index l.events)
