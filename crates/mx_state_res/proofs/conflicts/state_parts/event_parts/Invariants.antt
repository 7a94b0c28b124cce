use Rattle.std.proofs.Common.{map, take}
use Rattle.mx_states.specs.Numbered.{state_at}
use Rattle.mx_state_res.specs.Numbered as definition
use Rattle.mx_state_res.proofs.conflicts.state_parts.event_parts.Given as goal

-- those of the first and of the others so far
abbrev pub invariant-loop-number : goal.invariant-loop-number
invariant-loop-number l =
    definition.HaveSameEvents (map (λ part. part.items) l.parts.items)
    (definition.event_parts l.keys (state_at l.states l.base)
    (map (state_at l.states) (take l.number-index l.others)))
