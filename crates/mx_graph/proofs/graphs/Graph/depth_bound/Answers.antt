use Rattle.std.proofs.Common.{◌≡◌, ◌<◌, length, List, ap, arith, ◌∙◌}
use Rattle.std.specs.Prelude.{slice_index}
use Rattle.mx_graph.specs.Depths.{depth_bound}
use Rattle.mx_graph.specs.Record.{Row}
use Rattle.mx_graph.proofs.DepthLemmas.{number-at}
use Rattle.mx_graph.proofs.graphs.Graph.depth_bound.Goals as goal

pub returns : goal.returns
returns c =
    let rows = c.self.inside.rows.items in
    let bounds = c.self.inside.depth_bounds.items in
    let same : length rows ≡ length c.args.self.now = ap length c.self.view_is in
    let len : length bounds ≡ length rows = c.self.invariant.depth_bounds.len in
    let at : c.index.result ≡ c.args.number = c.index.ensures.index in
    let low : c.args.number < length c.args.self.now = c.requires in
    number-at bounds c.index.result c.index-2.result.now (omega arith) c.index-2.ensures
    ∙ ap (slice_index bounds) at ∙ c.self.invariant.depth_bounds.right c.args.number (omega arith) ∙ ap (λ (xs : List Row). depth_bound xs c.args.number) c.self.view_is
