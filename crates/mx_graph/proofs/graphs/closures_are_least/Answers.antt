use Rattle.mx_graph.proofs.ReachedLemmas.{closures-least}
use Rattle.mx_graph.proofs.graphs.closures_are_least.Goals as goal

pub returns : goal.returns
returns c = closures-least
