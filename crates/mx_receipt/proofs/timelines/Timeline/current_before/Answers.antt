use Rattle.std.proofs.Common.{ap, subst, ◌∙◌}
use Rattle.std.specs.Prelude.{slice_index_or}
use Rattle.mx_receipt.specs.TimelineView.{TimelineView}
use Rattle.mx_receipt.specs.Timelines.{HasKept}
use Rattle.mx_receipt.proofs.ShownLemmas.{has-kept, current_before-below, shown-current_before}
use Rattle.mx_receipt.proofs.timelines.Timeline.current_before.Goals as goal

pub state-requires : goal.state-requires
state-requires c =
    let h : HasKept c.self.inside.graph c.self.inside.states c.self.inside.judgements.items c.self.inside.extremities.items c.self.inside.current c.args.self.now.kept =
    subst (HasKept c.self.inside.graph c.self.inside.states c.self.inside.judgements.items c.self.inside.extremities.items c.self.inside.current) (ap (λ (t : TimelineView). t.kept) c.self.view_is) (has-kept c.self.inside.graph c.self.inside.states c.self.inside.judgements.items c.self.inside.extremities.items c.self.inside.current c.self.inside.prepared c.self.invariant.0) in
    current_before-below c.self.inside.graph c.self.inside.states c.self.inside.judgements.items c.self.inside.extremities.items c.self.inside.current c.args.self.now.kept h c.args.number c.index-2.result.now c.requires (c.index-2.ensures ∙ ap (λ n. slice_index_or c.self.inside.judgements.items n c.index-2.result.now) c.index.ensures.index)

pub returns : goal.returns
returns c =
    let h : HasKept c.self.inside.graph c.self.inside.states c.self.inside.judgements.items c.self.inside.extremities.items c.self.inside.current c.args.self.now.kept =
    subst (HasKept c.self.inside.graph c.self.inside.states c.self.inside.judgements.items c.self.inside.extremities.items c.self.inside.current) (ap (λ (t : TimelineView). t.kept) c.self.view_is) (has-kept c.self.inside.graph c.self.inside.states c.self.inside.judgements.items c.self.inside.extremities.items c.self.inside.current c.self.inside.prepared c.self.invariant.0) in
    c.state.ensures ∙ shown-current_before c.self.inside.graph c.self.inside.states c.self.inside.judgements.items c.self.inside.extremities.items c.self.inside.current c.args.self.now.kept h c.args.number c.index-2.result.now c.requires (c.index-2.ensures ∙ ap (λ n. slice_index_or c.self.inside.judgements.items n c.index-2.result.now) c.index.ensures.index)
