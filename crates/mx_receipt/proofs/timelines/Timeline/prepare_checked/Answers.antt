use Rattle.std.proofs.Common.{◌≡◌, None, Some, sym, ap, subst, ◌∙◌}
use Rattle.mx_receipt.specs.Judgements.{IsHeld, judged_in, kept_of}
use Rattle.mx_receipt.specs.Receipt.{rows_of, offer_error, verdict, judged}
use Rattle.mx_receipt.specs.TimelineView.{TimelineView}
use Rattle.mx_receipt.specs.Timelines.{IsTimeline, kept_in}
use Rattle.mx_receipt.proofs.TimelineLemmas.{none-prepared, is_prepared, added-kept, added-prepared}
use Rattle.mx_receipt.proofs.timelines.Timeline.prepare_checked.Goals as goal

pub prepare_checked_in-requires-clause-held : goal.prepare_checked_in-requires-clause-held
prepare_checked_in-requires-clause-held c =
    let shown = c.self.view_is ∙ c.discard.ensures in
    let none : c.self.inside.prepared ≡ None = none-prepared c.self.inside.graph c.self.inside.states c.self.inside.judgements.items c.self.inside.extremities.items c.self.inside.current c.self.inside.prepared c.self.invariant.0 (ap (λ (t : TimelineView). t.prepared) shown) in
    subst (λ es. IsHeld c.self.inside.graph c.self.inside.states c.self.inside.judgements.items es c.self.inside.current) (sym c.deref.ensures.value) (subst (IsTimeline c.self.inside.graph c.self.inside.states c.self.inside.judgements.items c.self.inside.extremities.items c.self.inside.current) none c.self.invariant.0)

pub prepare_checked_in-requires-clause-free : goal.prepare_checked_in-requires-clause-free
prepare_checked_in-requires-clause-free c =
    let shown = c.self.view_is ∙ c.discard.ensures in
    let none : c.self.inside.prepared ≡ None = none-prepared c.self.inside.graph c.self.inside.states c.self.inside.judgements.items c.self.inside.extremities.items c.self.inside.current c.self.inside.prepared c.self.invariant.0 (ap (λ (t : TimelineView). t.prepared) shown) in
    let held : IsHeld c.self.inside.graph c.self.inside.states c.self.inside.judgements.items c.self.inside.extremities.items c.self.inside.current = subst (IsTimeline c.self.inside.graph c.self.inside.states c.self.inside.judgements.items c.self.inside.extremities.items c.self.inside.current) none c.self.invariant.0 in
    let same : kept_of c.self.inside.graph (judged_in c.self.inside.states c.self.inside.judgements.items) ≡ c.args.self.now.kept = ap (kept_in c.self.inside.graph (judged_in c.self.inside.states c.self.inside.judgements.items)) (sym none) ∙ ap (λ (t : TimelineView). t.kept) shown in
    subst (λ rs. offer_error rs c.args.id c.args.event ≡ None) (ap rows_of (sym same) ∙ sym held.is_kept.are_kept) c.requires

pub invariant_of-self : goal.invariant_of-self
invariant_of-self c =
    let shown = c.self.view_is ∙ c.discard.ensures in
    let none : c.self.inside.prepared ≡ None = none-prepared c.self.inside.graph c.self.inside.states c.self.inside.judgements.items c.self.inside.extremities.items c.self.inside.current c.self.inside.prepared c.self.invariant.0 (ap (λ (t : TimelineView). t.prepared) shown) in
    let held : IsHeld c.self.inside.graph c.self.inside.states c.self.inside.judgements.items c.self.inside.extremities.items c.self.inside.current = subst (IsTimeline c.self.inside.graph c.self.inside.states c.self.inside.judgements.items c.self.inside.extremities.items c.self.inside.current) none c.self.invariant.0 in (
      is_prepared c.self.inside.graph c.self.inside.states c.self.inside.judgements.items c.self.inside.extremities.items c.self.inside.current held c.args.id c.args.event c.prepare_checked_in.new.graph c.prepare_checked_in.new.states c.prepare_checked_in.new.judgements.items c.in-Ok.prepared c.in-Ok.ensures.added c.in-Ok.ensures.count,
      c.in-Ok.ensures.right,
    )

pub returns-in-Ok-clause-verdict : goal.returns-in-Ok-clause-verdict
returns-in-Ok-clause-verdict c =
    let shown = c.self.view_is ∙ c.discard.ensures in
    let none : c.self.inside.prepared ≡ None = none-prepared c.self.inside.graph c.self.inside.states c.self.inside.judgements.items c.self.inside.extremities.items c.self.inside.current c.self.inside.prepared c.self.invariant.0 (ap (λ (t : TimelineView). t.prepared) shown) in
    let same : kept_of c.self.inside.graph (judged_in c.self.inside.states c.self.inside.judgements.items) ≡ c.args.self.now.kept = ap (kept_in c.self.inside.graph (judged_in c.self.inside.states c.self.inside.judgements.items)) (sym none) ∙ ap (λ (t : TimelineView). t.kept) shown in
    c.in-Ok.ensures.verdict ∙ ap (λ ks. verdict ks c.args.event) same

pub returns-in-Ok-clause-prepared : goal.returns-in-Ok-clause-prepared
returns-in-Ok-clause-prepared c =
    let shown = c.self.view_is ∙ c.discard.ensures in
    let none : c.self.inside.prepared ≡ None = none-prepared c.self.inside.graph c.self.inside.states c.self.inside.judgements.items c.self.inside.extremities.items c.self.inside.current c.self.inside.prepared c.self.invariant.0 (ap (λ (t : TimelineView). t.prepared) shown) in
    let held : IsHeld c.self.inside.graph c.self.inside.states c.self.inside.judgements.items c.self.inside.extremities.items c.self.inside.current = subst (IsTimeline c.self.inside.graph c.self.inside.states c.self.inside.judgements.items c.self.inside.extremities.items c.self.inside.current) none c.self.invariant.0 in
    let same : kept_of c.self.inside.graph (judged_in c.self.inside.states c.self.inside.judgements.items) ≡ c.args.self.now.kept = ap (kept_in c.self.inside.graph (judged_in c.self.inside.states c.self.inside.judgements.items)) (sym none) ∙ ap (λ (t : TimelineView). t.kept) shown in
    (λ i. record {
      kept = added-kept c.self.inside.graph c.self.inside.states c.self.inside.judgements.items c.self.inside.extremities.items c.self.inside.current held c.args.id c.args.event c.prepare_checked_in.new.graph c.prepare_checked_in.new.states c.prepare_checked_in.new.judgements.items c.in-Ok.prepared c.in-Ok.ensures.added c.in-Ok.ensures.count i;
      prepared = added-prepared c.self.inside.graph c.self.inside.states c.self.inside.judgements.items c.self.inside.extremities.items c.self.inside.current held c.args.id c.args.event c.prepare_checked_in.new.graph c.prepare_checked_in.new.states c.prepare_checked_in.new.judgements.items c.in-Ok.prepared c.in-Ok.ensures.added c.in-Ok.ensures.count i;
    }) ∙ λ i. record { kept = same i; prepared = Some (judged (same i) c.args.id c.args.event) }
