use Rattle.std.proofs.Common.{rules}
use Rattle.mx_dock.proofs.MoveLemmas.{puts}
use Rattle.mx_dock.proofs.docks.Dock.put.Goals as goal

pub try_push_as-requires-clause-rule : goal.try_push_as-requires-clause-rule
try_push_as-requires-clause-rule g c = puts g.T.Journaled.journal g.T.Journaled.caller g.T.Journaled.place _ _ _ _ (search rules) (search rules) (search rules) (search rules) (search rules) (search rules) (search rules)
