use Rattle.std.proofs.Common.{◌≡◌, None, Some, refl, sym, ap, subst, ◌∙◌}
use Rattle.std.proofs.lemmas.Fn.{gave_at}
use Rattle.std.specs.Fn.{FnOnceReturnsAt}
use Rattle.mx_receipt.specs.Judgements.{judged_in}
use Rattle.mx_receipt.specs.Receipt.{installed}
use Rattle.mx_receipt.specs.TimelineView.{TimelineView}
use Rattle.mx_receipt.specs.Timelines.{IsTimeline, IsPrepared, kept_in, prepared_in}
use Rattle.mx_receipt.proofs.TimelineLemmas.{installed-shown}
use Rattle.mx_receipt.proofs.timelines.Timeline.as_installed.Goals as goal

pub returns-in-Some-clause-answer : goal.returns-in-Some-clause-answer
returns-in-Some-clause-answer g c =
    let t = c.self.inside in
    let was : t.prepared ≡ Some c.in-Some.prepared = sym c.take.ensures.value ∙ c.in-Some.is in
    let h : IsPrepared t.graph t.states t.judgements.items t.extremities.items t.current c.in-Some.prepared =
    subst (IsTimeline t.graph t.states t.judgements.items t.extremities.items t.current) was c.self.invariant.0 in
    let shown : record { kept = kept_in t.graph (judged_in t.states t.judgements.items) c.take.new.self; prepared = prepared_in t.graph (judged_in t.states t.judgements.items) c.take.new.self }
    ≡ record { kept = installed c.args.self.now.kept c.args.self.now.prepared; prepared = None } =
    (λ i. record { kept = kept_in t.graph (judged_in t.states t.judgements.items) (c.take.ensures.after i); prepared = prepared_in t.graph (judged_in t.states t.judgements.items) (c.take.ensures.after i) })
    ∙ λ i. record {
      kept = (installed-shown t.graph t.states t.judgements.items t.extremities.items t.current c.in-Some.prepared h
          ∙ (λ j. installed (kept_in t.graph (judged_in t.states t.judgements.items) (sym was j)) (prepared_in t.graph (judged_in t.states t.judgements.items) (sym was j)))
          ∙ ap (λ (v : TimelineView). installed v.kept v.prepared) c.self.view_is) i;
      prepared = None;
    } in
    subst (λ v. FnOnceReturnsAt g.F.FnOnce c.args.read v c.read-answer.result) shown (gave_at g.F.FnOnce c.read-answer.ensures refl)
