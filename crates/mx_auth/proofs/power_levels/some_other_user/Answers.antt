use Rattle.std.proofs.Common.{rules, sym}
use Rattle.mx_auth.proofs.EntryLemmas.{some_other_user-in, some_other_user-none}
use Rattle.mx_auth.proofs.power_levels.some_other_user.Goals as goal

pub returns-in-Some : goal.returns-in-Some
returns-in-Some c = some_other_user-in _ _ _ _ _ _ _ (sym c.in-Some.ensures) c.entries_at-in-Some.ensures (search rules)

pub returns-in-None : goal.returns-in-None
returns-in-None c = sym (some_other_user-none _ _ _ _ (sym c.in-None.ensures))
