use Rattle.std.proofs.Common.{◌≡◌, filter, map, take}
use Rattle.mx_graph.specs.StateMap.{events_of}
use Rattle.mx_state_res.proofs.ConflictLemmas.{lacks}
use Rattle.mx_state_res.proofs.conflicts.conflicted_events.Given as goal

-- the events of the states so far
abbrev pub invariant-loop-state : goal.invariant-loop-state
invariant-loop-state l = map (λ events. events.items) l.found.items ≡ map (λ s. events_of (filter (lacks l.agreed) s.now)) (take l.state-index l.states)
