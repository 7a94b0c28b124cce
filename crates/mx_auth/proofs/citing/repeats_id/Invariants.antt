use Rattle.std.proofs.Common.{◌≡◌, drop}
use Rattle.std.specs.Prelude.{bytes_eq}
use Rattle.mx_auth.specs.Rules.{has_repeat}
use Rattle.mx_auth.proofs.citing.repeats_id.Given as goal

-- none was found, so the others decide
abbrev pub invariant-loop-i : goal.invariant-loop-i
invariant-loop-i l = has_repeat bytes_eq (drop l.i l.ids) ≡ has_repeat bytes_eq l.ids
