use Rattle.std.proofs.Common.{◌≡◌, drop}
use Rattle.mx_auth.specs.Keys.{repeats_key}
use Rattle.mx_auth.proofs.citing.repeats_key.Given as goal

-- none was found, so the others decide
abbrev pub invariant-loop-i : goal.invariant-loop-i
invariant-loop-i l = repeats_key (drop l.i l.entries) ≡ repeats_key l.entries
