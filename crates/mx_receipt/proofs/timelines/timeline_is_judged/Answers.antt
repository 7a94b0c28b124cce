use Rattle.std.proofs.Common.{ap, subst}
use Rattle.mx_receipt.specs.TimelineView.{TimelineView}
use Rattle.mx_receipt.specs.Timelines.{HasKept}
use Rattle.mx_receipt.proofs.ShownLemmas.{has-kept, shown-judged}
use Rattle.mx_receipt.proofs.timelines.timeline_is_judged.Goals as goal

pub returns : goal.returns
returns c =
    let t = c.timeline.inside in
    let h : HasKept t.graph t.states t.judgements.items t.extremities.items t.current c.args.timeline.now.kept =
    subst (HasKept t.graph t.states t.judgements.items t.extremities.items t.current) (ap (λ (v : TimelineView). v.kept) c.timeline.view_is)
    (has-kept t.graph t.states t.judgements.items t.extremities.items t.current t.prepared c.timeline.invariant.0) in
    shown-judged t.graph t.states t.judgements.items t.extremities.items t.current c.args.timeline.now.kept h
