use Rattle.mx_world.proofs.StopLemmas.{known}
use Rattle.mx_world.proofs.stops.known_events_keep_their_verdicts.Goals as goal

pub returns : goal.returns
returns c = known
