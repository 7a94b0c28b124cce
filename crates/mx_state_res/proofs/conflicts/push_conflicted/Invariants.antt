use Rattle.std.proofs.Common.{◌≡◌, ◌++◌, take, filter}
use Rattle.mx_graph.specs.StateMap.{events_of}
use Rattle.mx_state_res.proofs.ConflictLemmas.{lacks}
use Rattle.mx_state_res.proofs.conflicts.push_conflicted.Given as goal

-- the events of the entries so far
abbrev pub invariant-loop-entry : goal.invariant-loop-entry
invariant-loop-entry l = l.found.items ≡ l.fn.found.items ++ events_of (filter (lacks l.agreed) (take l.entry-index l.entry-items))
