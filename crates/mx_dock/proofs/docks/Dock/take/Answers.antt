use Rattle.std.proofs.Common.{rules}
use Rattle.mx_dock.proofs.MoveLemmas.{takes}
use Rattle.mx_dock.proofs.docks.Dock.take.Goals as goal

pub try_pop_as-requires-clause-rule : goal.try_pop_as-requires-clause-rule
try_pop_as-requires-clause-rule g c = takes g.T.Journaled.journal g.T.Journaled.caller g.T.Journaled.place _ _ (search rules)
