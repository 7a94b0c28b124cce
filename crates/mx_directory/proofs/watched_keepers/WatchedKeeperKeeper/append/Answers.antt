use Rattle.mx_directory.proofs.watched_keepers.WatchedKeeperKeeper.append.Goals as goal

pub returns-clause-crash : goal.returns-clause-crash
returns-clause-crash g c = rw (← c.self.view_is) (c.append-added.ensures.crash)
