use Rattle.std.proofs.Common.{ap, subst, sym}
use Rattle.mx_graph.specs.Graph.{IsSound}
use Rattle.mx_graph.proofs.DepthLemmas.{bounds-hold}
use Rattle.mx_receipt.specs.Receipt.{rows_of}
use Rattle.mx_receipt.specs.TimelineView.{TimelineView}
use Rattle.mx_receipt.specs.Timelines.{HasKept}
use Rattle.mx_receipt.proofs.ClosureLemmas.{sound-earlier}
use Rattle.mx_receipt.proofs.ShownLemmas.{has-kept, shown-rows}
use Rattle.mx_receipt.proofs.timelines.timeline_depths_hold.Goals as goal

pub returns-clause-sound : goal.returns-clause-sound
returns-clause-sound c =
    let t = c.timeline.inside in
    let h : HasKept t.graph t.states t.judgements.items t.extremities.items t.current c.args.timeline.now.kept =
    subst (HasKept t.graph t.states t.judgements.items t.extremities.items t.current) (ap (λ (v : TimelineView). v.kept) c.timeline.view_is)
    (has-kept t.graph t.states t.judgements.items t.extremities.items t.current t.prepared c.timeline.invariant.0) in
    subst IsSound (sym (shown-rows t.graph t.states t.judgements.items t.extremities.items t.current c.args.timeline.now.kept h))
    (sound-earlier h.kept_rows h.next_row (subst IsSound h.are_rows c.graph_is_sound.ensures))

pub returns-clause-bounds : goal.returns-clause-bounds
returns-clause-bounds c = bounds-hold (rows_of c.args.timeline.now.kept) (returns-clause-sound c)
