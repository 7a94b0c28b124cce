use Rattle.std.proofs.Common.{rules, sym}
use Rattle.mx_auth.proofs.EntryLemmas.{some_above-in, some_above-none}
use Rattle.mx_auth.proofs.power_levels.some_above.Goals as goal

pub returns-in-Some : goal.returns-in-Some
returns-in-Some c = some_above-in _ _ _ _ _ _ _ (sym c.in-Some.ensures) c.entries_at-in-Some.ensures (search rules)

pub returns-in-None : goal.returns-in-None
returns-in-None c = sym (some_above-none _ _ _ _ (sym c.in-None.ensures))
