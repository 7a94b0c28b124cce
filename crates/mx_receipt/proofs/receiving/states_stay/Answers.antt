use Rattle.std.proofs.Common.{◌≡◌, ◌==◌, ◌<◌, ◌-◌, length, true, ap, sym, ◌∙◌, arith, eqb-true}
use Rattle.std.specs.Prelude.{get_or}
use Rattle.mx_graph.specs.Record.{is_in}
use Rattle.std.specs.List.{list_all}
use Rattle.mx_receipt.specs.Judgements.{numbers_at}
use Rattle.mx_receipt.proofs.CoverLemmas.{in-all}
use Rattle.mx_receipt.proofs.StayingLemmas.{in-numbers, number-at, place-in, same-beside, same-instead, same-unaccepted}
use Rattle.mx_receipt.proofs.receiving.states_stay.Goals as goal

pub returns-then-not-is_accepted : goal.returns-then-not-is_accepted
returns-then-not-is_accepted c = λ yes.
    same-unaccepted c.args.judgements.now c.args.judged.now.judgement c.args.latest.now.extremities.now c.args.judged.now.covered.items c.args.judged.now.extremities.items c.requires.below c.requires.replaced
    (sym c.is_accepted.ensures ∙ c.if-not-is_accepted.true)

pub returns-then-len-latest : goal.returns-then-len-latest
returns-then-len-latest c = λ yes.
    same-instead c.args.judgements.now c.args.judged.now.judgement c.args.latest.now.extremities.now c.args.judged.now.covered.items c.args.judged.now.extremities.items c.requires.below c.requires.replaced
    (sym c.is_accepted.ensures ∙ c.if-not-is_accepted.false) (let e = c.len.ensures in let l = c.if-len-latest.true in omega arith)
    (ap (λ events. list_all (λ number. number == c.args.judged.now.judgement.after) (numbers_at c.args.judgements.now events)) (sym c.deref.ensures.value) ∙ sym c.same_after.ensures ∙ yes)

pub returns-in-Some : goal.returns-in-Some
returns-in-Some c = λ yes.
    let js = c.args.judgements.now in
    let exts = c.args.latest.now.extremities.now in
    let there : is_in exts c.in-Some.last.now ≡ true = place-in exts (length exts - 1) c.in-Some.last.now (sym c.in-Some.ensures.value) in
    same-beside js c.args.judged.now.judgement exts c.args.judged.now.covered.items c.args.judged.now.extremities.items c.requires.below c.requires.replaced
    (sym c.is_accepted.ensures ∙ c.if-not-is_accepted.false) (let e = c.len.ensures in let l = c.if-len-latest.false in omega arith)
    (in-numbers js exts c.in-Some.last.now c.args.judged.now.judgement.after there
    (number-at js c.in-Some.last.now c.index-judgements-index.result (in-all (λ p. p < length js) exts c.in-Some.last.now c.requires.below there)
    ∙ ap (λ i. (get_or js i c.index-judgements-index.result).after) (sym c.index.ensures.index)
    ∙ eqb-true (get_or js c.index.result c.index-judgements-index.result).after c.args.judged.now.judgement.after (sym c.eq.ensures ∙ yes)))
