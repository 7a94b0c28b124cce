use Rattle.std.proofs.Common.{◌≡◌, ◌<◌, ◌||◌, ℕ, None, Some, length, sym, ap, subst, ◌∙◌}
use Rattle.std.specs.List.{All}
use Rattle.mx_graph.specs.Record.{is_in}
use Rattle.mx_receipt.specs.Judgements.{is_marked, judged_in}
use Rattle.mx_receipt.specs.Receipt.{installed}
use Rattle.mx_receipt.specs.TimelineView.{TimelineView}
use Rattle.mx_receipt.specs.Timelines.{IsTimeline, IsPrepared, kept_in, prepared_in}
use Rattle.mx_receipt.proofs.TimelineLemmas.{covered-known, installed-held, installed-shown, marked-kept}
use Rattle.mx_receipt.proofs.timelines.Timeline.install.Goals as goal

pub mark_covered-requires : goal.mark_covered-requires
mark_covered-requires c =
    let t = c.self.inside in
    let was : t.prepared ≡ Some c.in-Some.prepared = sym c.take.ensures.value ∙ c.in-Some.is in
    let h : IsPrepared t.graph t.states t.judgements.items t.extremities.items t.current c.in-Some.prepared =
    subst (IsTimeline t.graph t.states t.judgements.items t.extremities.items t.current) was c.self.invariant.0 in
    subst (All (λ p. p < length t.judgements.items)) (sym c.deref.ensures.value) (covered-known t.graph t.states t.judgements.items t.extremities.items t.current c.in-Some.prepared h)

pub invariant_of-self : goal.invariant_of-self
invariant_of-self c =
    let t = c.self.inside in
    let was : t.prepared ≡ Some c.in-Some.prepared = sym c.take.ensures.value ∙ c.in-Some.is in
    let h : IsPrepared t.graph t.states t.judgements.items t.extremities.items t.current c.in-Some.prepared =
    subst (IsTimeline t.graph t.states t.judgements.items t.extremities.items t.current) was c.self.invariant.0 in
    let js = c.mark_covered.new.judgements.items in
    let marked : (q : ℕ) → is_marked js q ≡ (is_marked t.judgements.items q || is_in c.in-Some.prepared.covered.items q) =
    λ q. c.mark_covered.ensures.marked q ∙ ap (λ xs. is_marked t.judgements.items q || is_in xs q) c.deref.ensures.value in (
      subst (IsTimeline t.graph t.states js c.in-Some.prepared.extremities.items c.in-Some.prepared.current) (sym c.take.ensures.after)
          (installed-held t.graph t.states t.judgements.items t.extremities.items t.current c.in-Some.prepared h js c.mark_covered.ensures.stay marked),
      c.self.invariant.1,
    )

pub returns-in-Some : goal.returns-in-Some
returns-in-Some c =
    let t = c.self.inside in
    let was : t.prepared ≡ Some c.in-Some.prepared = sym c.take.ensures.value ∙ c.in-Some.is in
    let h : IsPrepared t.graph t.states t.judgements.items t.extremities.items t.current c.in-Some.prepared =
    subst (IsTimeline t.graph t.states t.judgements.items t.extremities.items t.current) was c.self.invariant.0 in
    let js = c.mark_covered.new.judgements.items in
    let marked : (q : ℕ) → is_marked js q ≡ (is_marked t.judgements.items q || is_in c.in-Some.prepared.covered.items q) =
    λ q. c.mark_covered.ensures.marked q ∙ ap (λ xs. is_marked t.judgements.items q || is_in xs q) c.deref.ensures.value in
    (λ i. record { kept = kept_in t.graph (judged_in t.states js) (c.take.ensures.after i); prepared = prepared_in t.graph (judged_in t.states js) (c.take.ensures.after i) })
    ∙ λ i. record {
      kept = (marked-kept t.graph t.states t.judgements.items t.extremities.items t.current c.in-Some.prepared h js c.mark_covered.ensures.stay marked
          ∙ installed-shown t.graph t.states t.judgements.items t.extremities.items t.current c.in-Some.prepared h
          ∙ (λ j. installed (kept_in t.graph (judged_in t.states t.judgements.items) (sym was j)) (prepared_in t.graph (judged_in t.states t.judgements.items) (sym was j)))
          ∙ ap (λ (v : TimelineView). installed v.kept v.prepared) c.self.view_is) i;
      prepared = None;
    }
