use Rattle.std.proofs.Common.{ap, subst, ◌∙◌}
use Rattle.mx_receipt.specs.TimelineView.{TimelineView}
use Rattle.mx_receipt.specs.Timelines.{HasKept}
use Rattle.mx_receipt.proofs.ShownLemmas.{has-kept, shown-current, current-below}
use Rattle.mx_receipt.proofs.timelines.Timeline.current.Goals as goal

pub state-requires : goal.state-requires
state-requires c =
    let h : HasKept c.self.inside.graph c.self.inside.states c.self.inside.judgements.items c.self.inside.extremities.items c.self.inside.current c.args.self.now.kept =
    subst (HasKept c.self.inside.graph c.self.inside.states c.self.inside.judgements.items c.self.inside.extremities.items c.self.inside.current) (ap (λ (t : TimelineView). t.kept) c.self.view_is) (has-kept c.self.inside.graph c.self.inside.states c.self.inside.judgements.items c.self.inside.extremities.items c.self.inside.current c.self.inside.prepared c.self.invariant.0) in
    current-below c.self.inside.graph c.self.inside.states c.self.inside.judgements.items c.self.inside.extremities.items c.self.inside.current c.args.self.now.kept h

pub returns : goal.returns
returns c =
    let h : HasKept c.self.inside.graph c.self.inside.states c.self.inside.judgements.items c.self.inside.extremities.items c.self.inside.current c.args.self.now.kept =
    subst (HasKept c.self.inside.graph c.self.inside.states c.self.inside.judgements.items c.self.inside.extremities.items c.self.inside.current) (ap (λ (t : TimelineView). t.kept) c.self.view_is) (has-kept c.self.inside.graph c.self.inside.states c.self.inside.judgements.items c.self.inside.extremities.items c.self.inside.current c.self.inside.prepared c.self.invariant.0) in
    c.state.ensures ∙ shown-current c.self.inside.graph c.self.inside.states c.self.inside.judgements.items c.self.inside.extremities.items c.self.inside.current c.args.self.now.kept h
