use Rattle.std.proofs.Common.{rules}
use Rattle.mx_dock.proofs.MoveLemmas.{opens}
use Rattle.mx_dock.proofs.passes.put_first.Goals as goal

pub try_push_as-requires-clause-rule : goal.try_push_as-requires-clause-rule
try_push_as-requires-clause-rule g c = opens g.T.Journaled.journal g.T.Journaled.caller g.T.Journaled.place _ _ _ _ (search rules)
