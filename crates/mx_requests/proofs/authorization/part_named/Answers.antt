use Rattle.std.proofs.Common.{◌+◌, ◌∷◌, drop, map, ap, sym, ◌∙◌, arith, Some}
use Rattle.std.proofs.lemmas.List.{drop_more}
use Rattle.mx_requests.specs.Authorization.{part_named}
use Rattle.mx_requests.specs.Reading.{part_shown}
use Rattle.mx_requests.proofs.PartLemmas.{named-first, named-later}
use Rattle.mx_requests.proofs.authorization.part_named.Goals as goal

pub returns-then-is_named : goal.returns-then-is_named
returns-then-is_named c =
    let i = c.loop-part.part-index in
    let parts = c.args.parts.now in
    let p = c.part-item.result in
    let here = drop_more parts i p (omega arith) ∙ ap (λ y. y ∷ drop (i + 1) parts) (sym c.part-item.is) in
    sym c.loop-part.invariant ∙ ap (λ ps. part_named c.args.name.now (map part_shown ps)) here ∙ named-first c.args.name.now p _ (sym c.is_named.ensures ∙ c.if-is_named.true) ∙ ap Some (sym c.deref.ensures)

pub loop-part-preserved : goal.loop-part-preserved
loop-part-preserved c =
    let i = c.loop-part.part-index in
    let parts = c.args.parts.now in
    let p = c.part-item.result in
    let here = drop_more parts i p (omega arith) ∙ ap (λ y. y ∷ drop (i + 1) parts) (sym c.part-item.is) in
    sym (named-later c.args.name.now p (drop (i + 1) parts) (sym c.is_named.ensures ∙ c.if-is_named.false)) ∙ ap (λ ps. part_named c.args.name.now (map part_shown ps)) (sym here) ∙ c.loop-part.invariant
