use Rattle.std.proofs.Common.{◌≡◌, ◌<◌, ◌≤◌, length, Some, None, sym, ap, subst, ◌∙◌, arith}
use Rattle.mx_receipt.specs.TimelineView.{TimelineView}
use Rattle.mx_receipt.specs.Timelines.{HasKept}
use Rattle.mx_receipt.proofs.ShownLemmas.{has-kept, shown-found, shown-absent}
use Rattle.mx_receipt.proofs.timelines.Timeline.find.Goals as goal

pub returns-then-index-len-clause-place : goal.returns-then-index-len-clause-place
returns-then-index-len-clause-place c =
    let h : HasKept c.self.inside.graph c.self.inside.states c.self.inside.judgements.items c.self.inside.extremities.items c.self.inside.current c.args.self.now.kept =
    subst (HasKept c.self.inside.graph c.self.inside.states c.self.inside.judgements.items c.self.inside.extremities.items c.self.inside.current) (ap (λ (t : TimelineView). t.kept) c.self.view_is) (has-kept c.self.inside.graph c.self.inside.states c.self.inside.judgements.items c.self.inside.extremities.items c.self.inside.current c.self.inside.prepared c.self.invariant.0) in
    shown-found c.self.inside.graph c.self.inside.states c.self.inside.judgements.items c.self.inside.extremities.items c.self.inside.current c.args.self.now.kept h c.args.id.now c.in-Some.number (sym c.find.ensures.place ∙ c.in-Some.is)
    (let a : c.index.result ≡ c.in-Some.number = c.index.ensures.index in let b : c.len.result ≡ length c.args.self.now.kept = c.len.ensures in let l : c.index.result < c.len.result = c.if-index-len.true in omega arith)

pub returns-else-index-len-clause-place : goal.returns-else-index-len-clause-place
returns-else-index-len-clause-place c =
    let h : HasKept c.self.inside.graph c.self.inside.states c.self.inside.judgements.items c.self.inside.extremities.items c.self.inside.current c.args.self.now.kept =
    subst (HasKept c.self.inside.graph c.self.inside.states c.self.inside.judgements.items c.self.inside.extremities.items c.self.inside.current) (ap (λ (t : TimelineView). t.kept) c.self.view_is) (has-kept c.self.inside.graph c.self.inside.states c.self.inside.judgements.items c.self.inside.extremities.items c.self.inside.current c.self.inside.prepared c.self.invariant.0) in
    shown-absent c.self.inside.graph c.self.inside.states c.self.inside.judgements.items c.self.inside.extremities.items c.self.inside.current c.args.self.now.kept h c.args.id.now
    (λ p e.
    let same : c.in-Some.number ≡ p = (let f : Some c.in-Some.number ≡ Some p = sym c.in-Some.is ∙ c.find.ensures.place ∙ e in cc) in
    let a : c.index.result ≡ c.in-Some.number = c.index.ensures.index in
    let b : c.len.result ≡ length c.args.self.now.kept = c.len.ensures in
    let l : c.len.result ≤ c.index.result = c.if-index-len.false in
    omega arith)

pub returns-in-None-clause-place : goal.returns-in-None-clause-place
returns-in-None-clause-place c =
    let h : HasKept c.self.inside.graph c.self.inside.states c.self.inside.judgements.items c.self.inside.extremities.items c.self.inside.current c.args.self.now.kept =
    subst (HasKept c.self.inside.graph c.self.inside.states c.self.inside.judgements.items c.self.inside.extremities.items c.self.inside.current) (ap (λ (t : TimelineView). t.kept) c.self.view_is) (has-kept c.self.inside.graph c.self.inside.states c.self.inside.judgements.items c.self.inside.extremities.items c.self.inside.current c.self.inside.prepared c.self.invariant.0) in
    shown-absent c.self.inside.graph c.self.inside.states c.self.inside.judgements.items c.self.inside.extremities.items c.self.inside.current c.args.self.now.kept h c.args.id.now (λ p e. absurd (let f : None ≡ Some p = sym c.in-None.is ∙ c.find.ensures.place ∙ e in cc))
