use Rattle.std.proofs.Common.{◌<◌, List, ap, length, subst, sym, ◌∙◌}
use Rattle.mx_graph.specs.Depths.{depth_bound}
use Rattle.mx_graph.specs.Graph.{IsSound}
use Rattle.mx_graph.specs.Record.{Row}
use Rattle.mx_graph.proofs.DepthLemmas.{bound-earlier}
use Rattle.mx_receipt.specs.TimelineView.{TimelineView}
use Rattle.mx_receipt.specs.Timelines.{HasKept}
use Rattle.mx_receipt.proofs.ShownLemmas.{has-kept, shown-count, shown-rows}
use Rattle.mx_receipt.proofs.timelines.Timeline.depth_bound.Goals as goal

pub returns : goal.returns
returns c =
    let t = c.self.inside in
    let h : HasKept t.graph t.states t.judgements.items t.extremities.items t.current c.args.self.now.kept =
    subst (HasKept t.graph t.states t.judgements.items t.extremities.items t.current) (ap (λ (v : TimelineView). v.kept) c.self.view_is)
    (has-kept t.graph t.states t.judgements.items t.extremities.items t.current t.prepared c.self.invariant.0) in
    let low : c.args.number < length h.kept_rows =
    subst (λ n. c.args.number < n) (shown-count t.graph t.states t.judgements.items t.extremities.items t.current c.args.self.now.kept h) c.requires in
    c.depth_bound.ensures ∙ ap (λ (rows : List Row). depth_bound rows c.args.number) h.are_rows
    ∙ bound-earlier h.kept_rows h.next_row (subst IsSound h.are_rows c.graph_is_sound.ensures) c.args.number low
    ∙ ap (λ (rows : List Row). depth_bound rows c.args.number) (sym (shown-rows t.graph t.states t.judgements.items t.extremities.items t.current c.args.self.now.kept h))
