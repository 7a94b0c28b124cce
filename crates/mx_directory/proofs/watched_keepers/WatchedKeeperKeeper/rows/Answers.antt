use Rattle.mx_directory.proofs.watched_keepers.WatchedKeeperKeeper.rows.Goals as goal

pub returns-clause-crash : goal.returns-clause-crash
returns-clause-crash g c = rw (← c.self.view_is) (c.rows-found.ensures.crash)
