use Rattle.std.proofs.Common.{sym}
use Rattle.mx_commands.proofs.LineKindLemmas.{each_counted}
use Rattle.mx_commands.proofs.auditing.line_kinds.sum_of.Goals as goal

pub returns-clause-total : goal.returns-clause-total
returns-clause-total c =
    rw (sym c.count_accepted.ensures) at rw (sym c.count_soft_failed.ensures) at rw (sym c.count_rejected.ensures) at
    rw (sym c.count_refused.ensures) at rw (sym c.count_malformed.ensures) at (each_counted c.args.kinds.now)
