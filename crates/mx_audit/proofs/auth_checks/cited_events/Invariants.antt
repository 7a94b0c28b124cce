use Rattle.std.proofs.Common.{◌≡◌, map, take}
use Rattle.mx_auth.specs.Keys.{cited_shown}
use Rattle.mx_receipt.specs.Citing.{cited_in}
use Rattle.mx_receipt.specs.Receipt.{rows_of}
use Rattle.mx_audit.proofs.auth_checks.cited_events.Given as goal

-- those so far
abbrev pub invariant-loop-number : goal.invariant-loop-number
invariant-loop-number l = map cited_shown l.cited.items ≡ map (cited_in (rows_of l.earlier)) (take l.number-index l.numbers)
