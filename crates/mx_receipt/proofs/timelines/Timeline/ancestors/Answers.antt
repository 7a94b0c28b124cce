use Rattle.std.proofs.Common.{◌<◌, ap, length, subst, sym, ◌∙◌}
use Rattle.std.specs.List.{All}
use Rattle.mx_graph.specs.Graph.{ancestors}
use Rattle.mx_receipt.specs.TimelineView.{TimelineView}
use Rattle.mx_receipt.specs.Timelines.{HasKept}
use Rattle.mx_receipt.proofs.ClosureLemmas.{ancestors-known}
use Rattle.mx_receipt.proofs.ShownLemmas.{has-kept, shown-count, shown-rows}
use Rattle.mx_receipt.proofs.timelines.Timeline.ancestors.Goals as goal

pub returns-clause-set : goal.returns-clause-set
returns-clause-set c =
    let t = c.self.inside in
    let h : HasKept t.graph t.states t.judgements.items t.extremities.items t.current c.args.self.now.kept =
    subst (HasKept t.graph t.states t.judgements.items t.extremities.items t.current) (ap (λ (v : TimelineView). v.kept) c.self.view_is)
    (has-kept t.graph t.states t.judgements.items t.extremities.items t.current t.prepared c.self.invariant.0) in
    c.in_ok-found.ensures.set h.kept_rows h.next_row h.are_rows
    (subst (λ n. All (λ p. p < n) c.args.starts.now) (shown-count t.graph t.states t.judgements.items t.extremities.items t.current c.args.self.now.kept h) c.requires)
    ∙ ap (λ rows. ancestors rows c.args.starts.now) (sym (shown-rows t.graph t.states t.judgements.items t.extremities.items t.current c.args.self.now.kept h))

pub returns-clause-below : goal.returns-clause-below
returns-clause-below c =
    subst (All (λ p. p < length c.args.self.now.kept)) (sym (returns-clause-set c)) (ancestors-known c.args.self.now.kept c.args.starts.now)
