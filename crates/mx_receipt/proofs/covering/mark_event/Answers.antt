use Rattle.std.proofs.Common.{◌<◌, ◌||◌, ◌==◌, length, true, refl, subst, sym, ap, ◌∙◌}
use Rattle.std.proofs.Math.Seq.{map-set_same}
use Rattle.mx_receipt.specs.Judgements.{is_marked}
use Rattle.mx_receipt.specs.declared.snapshots.Judgement.{Judgement}
use Rattle.mx_receipt.proofs.PastLemmas.{marked-set, part}
use Rattle.mx_receipt.proofs.covering.mark_event.Goals as goal

pub returns-clause-stay : goal.returns-clause-stay
returns-clause-stay c = map-set_same part c.args.judgements.now.items c.index.result _ c.index_mut.result.now (ap part c.index_mut.ensures.value)

pub returns-clause-marked : goal.returns-clause-marked
returns-clause-marked c = λ p.
    let new : Judgement = record { verdict = c.index_mut.result.now.verdict; before = c.index_mut.result.now.before; after = c.index_mut.result.now.after; current = c.index_mut.result.now.current; covered = true } in
    marked-set c.args.judgements.now.items c.index.result new p (subst (λ n. n < length c.args.judgements.now.items) (sym c.index.ensures.index) c.requires) refl
    ∙ ap (λ n. is_marked c.args.judgements.now.items p || (n == p)) c.index.ensures.index
