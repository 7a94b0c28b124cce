use Rattle.mx_dock.proofs.MoveLemmas.{forks_berth}
use Rattle.mx_dock.proofs.docks.Dock.berth.Goals as goal

pub another-pass-requires-clause-rule : goal.another-pass-requires-clause-rule
another-pass-requires-clause-rule g c = forks_berth g.T.Journaled.journal g.T.Journaled.caller g.T.Journaled.place _ _ c.requires.mine.3 c.requires.first
