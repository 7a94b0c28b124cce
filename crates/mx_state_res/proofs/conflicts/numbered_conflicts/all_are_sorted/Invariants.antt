use Rattle.std.proofs.Common.{T, take}
use Rattle.std.specs.List.{All}
use Rattle.std.specs.FinMap.Entries.{is_sorted}
use Rattle.mx_graph.specs.StateMap.{key_cmp}
use Rattle.mx_states.specs.Numbered.{state_at}
use Rattle.mx_state_res.proofs.conflicts.numbered_conflicts.all_are_sorted.Given as goal

-- those so far are
abbrev pub invariant-loop-number : goal.invariant-loop-number
invariant-loop-number l = All (λ number. T (is_sorted key_cmp (state_at l.states number))) (take l.number-index l.numbers)
