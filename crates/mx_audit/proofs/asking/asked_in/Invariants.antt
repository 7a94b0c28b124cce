use Rattle.std.proofs.Common.{◌≡◌, map, take}
use Rattle.mx_auth.specs.Keys.{key_shown}
use Rattle.mx_audit.specs.Explaining.{entries_at}
use Rattle.mx_audit.proofs.asking.asked_in.Given as goal

-- those so far
abbrev pub invariant-loop-key : goal.invariant-loop-key
invariant-loop-key g l = l.asked.items ≡ entries_at (g.S.StateLookup.state l.state) (map key_shown (take l.key-index l.keys))
