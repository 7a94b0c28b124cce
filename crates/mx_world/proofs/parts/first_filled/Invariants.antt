use Rattle.std.proofs.Common.{All, take}
use Rattle.mx_world.proofs.parts.first_filled.Given as goal

-- the parts so far have no entry
abbrev pub invariant-loop-number : goal.invariant-loop-number
invariant-loop-number g l = All g.P.Part.is_blank (take l.number l.fn.parts)
