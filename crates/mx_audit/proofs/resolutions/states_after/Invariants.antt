use Rattle.std.proofs.Common.{◌≡◌, map, take}
use Rattle.mx_receipt.specs.Receipt.{state_after}
use Rattle.mx_audit.proofs.resolutions.states_after.Given as goal

-- the states so far
abbrev pub invariant-loop-number : goal.invariant-loop-number
invariant-loop-number l = l.states.items ≡ map (state_after l.timeline.kept) (take l.number-index l.numbers)
