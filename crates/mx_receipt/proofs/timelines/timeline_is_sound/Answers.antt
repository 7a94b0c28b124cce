use Rattle.std.proofs.Common.{ap, subst}
use Rattle.mx_receipt.specs.TimelineView.{TimelineView}
use Rattle.mx_receipt.specs.Timelines.{HasKept}
use Rattle.mx_receipt.proofs.ShownLemmas.{has-kept, known-current, known-before, known-after}
use Rattle.mx_receipt.proofs.timelines.timeline_is_sound.Goals as goal

pub returns-clause-current : goal.returns-clause-current
returns-clause-current c =
    let t = c.timeline.inside in
    let h : HasKept t.graph t.states t.judgements.items t.extremities.items t.current c.args.timeline.now.kept =
    subst (HasKept t.graph t.states t.judgements.items t.extremities.items t.current) (ap (λ (v : TimelineView). v.kept) c.timeline.view_is)
    (has-kept t.graph t.states t.judgements.items t.extremities.items t.current t.prepared c.timeline.invariant.0) in
    known-current t.graph t.states t.judgements.items t.extremities.items t.current c.args.timeline.now.kept h

pub returns-clause-before : goal.returns-clause-before
returns-clause-before c =
    let t = c.timeline.inside in
    let h : HasKept t.graph t.states t.judgements.items t.extremities.items t.current c.args.timeline.now.kept =
    subst (HasKept t.graph t.states t.judgements.items t.extremities.items t.current) (ap (λ (v : TimelineView). v.kept) c.timeline.view_is)
    (has-kept t.graph t.states t.judgements.items t.extremities.items t.current t.prepared c.timeline.invariant.0) in
    known-before t.graph t.states t.judgements.items t.extremities.items t.current c.args.timeline.now.kept h

pub returns-clause-after : goal.returns-clause-after
returns-clause-after c =
    let t = c.timeline.inside in
    let h : HasKept t.graph t.states t.judgements.items t.extremities.items t.current c.args.timeline.now.kept =
    subst (HasKept t.graph t.states t.judgements.items t.extremities.items t.current) (ap (λ (v : TimelineView). v.kept) c.timeline.view_is)
    (has-kept t.graph t.states t.judgements.items t.extremities.items t.current t.prepared c.timeline.invariant.0) in
    known-after t.graph t.states t.judgements.items t.extremities.items t.current c.args.timeline.now.kept h
