use Rattle.std.proofs.Common.{◌≡◌, ◌↔◌, take, map, None}
use Rattle.std.specs.List.{All}
use Rattle.mx_pdu.specs.StateKeys.{Key}
use Rattle.mx_graph.specs.StateMap.{entry}
use Rattle.mx_states.specs.Numbered.{state_at}
use Rattle.mx_states.proofs.states.States.differing.Given as goal

-- the keys at which the others so far differ from the first
abbrev pub invariant-loop-other : goal.invariant-loop-other
invariant-loop-other l = (key : Key)
    → (entry l.found key ≡ None) ↔ All (λ t. entry t key ≡ entry (state_at l.self l.first) key) (map (state_at l.self) (take l.other-index l.others))
