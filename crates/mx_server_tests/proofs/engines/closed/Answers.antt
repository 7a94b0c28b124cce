use Rattle.mx_engine.proofs.SeatLemmas.{has_first}
use Rattle.mx_server_tests.proofs.CallerLemmas.{the-first, the-all}
use Rattle.mx_server_tests.proofs.engines.closed.Goals as goal

pub close-requires-clause-mine : goal.close-requires-clause-mine
close-requires-clause-mine g c = c.requires.mine

pub close-requires-clause-first : goal.close-requires-clause-first
close-requires-clause-first g c = has_first c.args.seats.items (the-first c.args.engine c.args.seats.items c.requires)

pub close-requires-clause-all : goal.close-requires-clause-all
close-requires-clause-all g c = the-all c.args.engine c.args.seats.items c.requires
