use Rattle.mx_graph.proofs.MarkLemmas.{cited-within}
use Rattle.mx_graph.proofs.closing_above.reached_above.Goals as goal

pub reached_between-requires-clause-within : goal.reached_between-requires-clause-within
reached_between-requires-clause-within c = cited-within c.args.edges.now c.args.starts.now c.requires.down
