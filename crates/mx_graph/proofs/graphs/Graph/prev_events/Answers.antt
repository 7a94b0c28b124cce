use Rattle.std.proofs.Common.{◌<◌, length, rules, ap, ◌∙◌}
use Rattle.mx_graph.specs.Edges.{cited}
use Rattle.mx_graph.specs.Record.{event, prev_events}
use Rattle.mx_graph.proofs.IndexLemmas.{edges-at, cites-lower}
use Rattle.mx_graph.proofs.graphs.Graph.prev_events.Goals as goal

pub returns-clause-lower : goal.returns-clause-lower
returns-clause-lower c =
    let inside : c.index.result < length c.self.inside.prev_edges.items = search rules in
    cites-lower c.self.inside.rows.items (λ p. prev_events c.self.inside.rows.items (event c.self.inside.rows.items p)) c.self.invariant.prev_down c.args.number c.deref.result.now
    (c.deref.ensures.value ∙ edges-at c.self.inside.prev_edges.items c.index.result c.index-2.result.now inside c.index-2.ensures ∙ ap (cited c.self.inside.prev_edges.items) c.index.ensures.index ∙ c.self.invariant.prev_edges c.args.number)
