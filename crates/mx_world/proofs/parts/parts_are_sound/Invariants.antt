use Rattle.std.proofs.Common.{All, take}
use Rattle.mx_world.proofs.parts.parts_are_sound.Given as goal

-- the parts so far are sound
abbrev pub invariant-loop-part : goal.invariant-loop-part
invariant-loop-part g l = All g.P.Part.is_sound (take l.part-index l.parts)
