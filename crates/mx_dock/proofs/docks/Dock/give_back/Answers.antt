use Rattle.mx_dock.proofs.MoveLemmas.{merges}
use Rattle.mx_dock.proofs.docks.Dock.give_back.Goals as goal

pub absorb-requires-clause-rule : goal.absorb-requires-clause-rule
absorb-requires-clause-rule g c = merges g.T.Journaled.journal g.T.Journaled.caller g.T.Journaled.place _ _ _ _ c.requires.first.2 c.requires.other.3 c.requires.other.2 c.requires.other_idle
