use Rattle.std.proofs.Common.{sym, subst}
use Rattle.mx_pdu.specs.Inside.{IsSound}
use Rattle.mx_pdu.proofs.pdus.Pdu.of_checked.Goals as goal

pub invariant_of-result : goal.invariant_of-result
invariant_of-result c = subst IsSound (sym c.in_ok-parts.ensures.ok) c.in_ok-whole.ensures.sound
