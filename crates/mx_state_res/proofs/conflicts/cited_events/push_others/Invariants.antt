use Rattle.std.proofs.Common.{◌≡◌, ◌++◌, not, take, filter}
use Rattle.mx_graph.specs.Record.{is_in}
use Rattle.mx_state_res.proofs.conflicts.cited_events.push_others.Given as goal

-- those of the events so far
abbrev pub invariant-loop-event : goal.invariant-loop-event
invariant-loop-event l = l.found.items ≡ l.fn.found.items ++ filter (λ p. not (is_in l.others p)) (take l.event-index l.events)
