use Rattle.std.proofs.Common.{◌≡◌, filter, map, not, take}
use Rattle.mx_states.specs.Entries.{has_entry}
use Rattle.mx_audit.proofs.conflicting.conflicted_entries.Given as goal

-- those of the states so far
abbrev pub invariant-loop-state : goal.invariant-loop-state
invariant-loop-state l = l.found.items ≡ map (λ s. filter (λ e. not (has_entry e l.agreed)) s.now) (take l.state-index l.states)
