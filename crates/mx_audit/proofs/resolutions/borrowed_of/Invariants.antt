use Rattle.std.proofs.Common.{◌≡◌, map, take}
use Rattle.mx_audit.proofs.resolutions.borrowed_of.Given as goal

-- those so far
abbrev pub invariant-loop-state : goal.invariant-loop-state
invariant-loop-state l = map (λ s. s.now) l.borrowed.items ≡ take l.state-index l.states
