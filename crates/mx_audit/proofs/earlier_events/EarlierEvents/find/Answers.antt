use Rattle.std.proofs.Common.{◌≡◌, ◌<◌, ◌≤◌, List, None, Some, length, sym, ap, ◌∙◌, arith}
use Rattle.mx_graph.specs.Record.{place_of}
use Rattle.mx_receipt.specs.Receipt.{Kept, rows_of}
use Rattle.mx_audit.proofs.EarlierLemmas.{count-earlier, place-absent, place-there}
use Rattle.mx_audit.proofs.earlier_events.EarlierEvents.find.Goals as goal

pub returns-then-index-len-clause-place : goal.returns-then-index-len-clause-place
returns-then-index-len-clause-place c =
    let t = c.self.inside in
    let kept = t.timeline.now.kept in
    let count : t.next ≡ length c.args.self.now = count-earlier kept t.next c.self.invariant.1 ∙ ap length c.self.view_is in
    place-there kept t.next c.self.invariant.1 c.args.id.now c.in-Some.number (sym c.find.ensures.place ∙ c.in-Some.is)
    (let a : c.index.result ≡ c.in-Some.number = c.index.ensures.index in let b : c.len.result ≡ length c.args.self.now = c.len.ensures in let l : c.index.result < c.len.result = c.if-index-len.true in omega arith)
    ∙ ap (λ (ks : List Kept). place_of (rows_of ks) c.args.id.now) c.self.view_is

pub returns-else-index-len-clause-place : goal.returns-else-index-len-clause-place
returns-else-index-len-clause-place c =
    let t = c.self.inside in
    let kept = t.timeline.now.kept in
    let count : t.next ≡ length c.args.self.now = count-earlier kept t.next c.self.invariant.1 ∙ ap length c.self.view_is in
    place-absent kept t.next c.self.invariant.1 c.args.id.now
    (λ p e.
    let same : c.in-Some.number ≡ p = (let f : Some c.in-Some.number ≡ Some p = sym c.in-Some.is ∙ c.find.ensures.place ∙ e in cc) in
    let a : c.index.result ≡ c.in-Some.number = c.index.ensures.index in
    let b : c.len.result ≡ length c.args.self.now = c.len.ensures in
    let l : c.len.result ≤ c.index.result = c.if-index-len.false in
    omega arith)
    ∙ ap (λ (ks : List Kept). place_of (rows_of ks) c.args.id.now) c.self.view_is

pub returns-in-None-clause-place : goal.returns-in-None-clause-place
returns-in-None-clause-place c =
    let t = c.self.inside in
    place-absent t.timeline.now.kept t.next c.self.invariant.1 c.args.id.now
    (λ p e. absurd (let f : None ≡ Some p = sym c.in-None.is ∙ c.find.ensures.place ∙ e in cc))
    ∙ ap (λ (ks : List Kept). place_of (rows_of ks) c.args.id.now) c.self.view_is
