use Rattle.mx_graph.proofs.IndexLemmas.{indexed-empty}
use Rattle.mx_graph.proofs.KeptChainLemmas.{kept-none}
use Rattle.mx_graph.proofs.graphs.Graph.new.Goals as goal

pub invariant_of-result : goal.invariant_of-result
invariant_of-result c =
    rw (c.new.ensures.items, c.new-2.ensures.items, c.new-3.ensures.items, c.new-5.ensures.empty, c.new-7.ensures.items) (indexed-empty _ c.new-4.result c.new-6.ensures (kept-none c.new-4.result c.new-4.ensures.places c.new-4.ensures.reached))
