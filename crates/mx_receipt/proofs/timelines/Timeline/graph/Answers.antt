use Rattle.std.proofs.Common.{◌≡◌, None, sym, ap, subst, ◌∙◌}
use Rattle.mx_receipt.specs.Judgements.{IsHeld, judged_in, kept_of}
use Rattle.mx_receipt.specs.Receipt.{rows_of}
use Rattle.mx_receipt.specs.TimelineView.{TimelineView}
use Rattle.mx_receipt.specs.Timelines.{IsTimeline, kept_in}
use Rattle.mx_receipt.proofs.TimelineLemmas.{none-prepared}
use Rattle.mx_receipt.proofs.timelines.Timeline.graph.Goals as goal

pub returns : goal.returns
returns c =
    let t = c.self.inside in
    let none : t.prepared ≡ None = none-prepared t.graph t.states t.judgements.items t.extremities.items t.current t.prepared c.self.invariant.0 (ap (λ (v : TimelineView). v.prepared) c.self.view_is ∙ c.requires) in
    let held : IsHeld t.graph t.states t.judgements.items t.extremities.items t.current = subst (IsTimeline t.graph t.states t.judgements.items t.extremities.items t.current) none c.self.invariant.0 in
    let same : kept_of t.graph (judged_in t.states t.judgements.items) ≡ c.args.self.now.kept = ap (kept_in t.graph (judged_in t.states t.judgements.items)) (sym none) ∙ ap (λ (v : TimelineView). v.kept) c.self.view_is in
    held.is_kept.are_kept ∙ ap rows_of same
