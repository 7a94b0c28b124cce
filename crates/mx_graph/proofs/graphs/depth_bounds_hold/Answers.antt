use Rattle.mx_graph.proofs.DepthLemmas.{bounds-hold}
use Rattle.mx_graph.proofs.graphs.depth_bounds_hold.Goals as goal

pub returns : goal.returns
returns c = bounds-hold c.args.graph.now c.graph_is_sound.ensures
