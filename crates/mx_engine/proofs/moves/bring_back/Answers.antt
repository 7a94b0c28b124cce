use Rattle.std.proofs.Common.{◌≡◌, ◌-◌, ◌+◌, ◌<◌, drop, length, sym, ◌∙◌, ap, subst, arith}
use Rattle.std.proofs.lemmas.List.{drop_all}
use Rattle.mx_engine.specs.Jobs.{unmoved}
use Rattle.mx_engine.proofs.MoveLemmas.{moves_at, unmoved-more, length-unmoved}
use Rattle.mx_engine.proofs.moves.bring_back.Goals as goal

pub loop-done-init : goal.loop-done-init
loop-done-init g c =
    let whole : length c.args.moves.now ≡ length c.args.moves.now - 0 = omega arith in
    subst (λ m. c.args.jobs.now.items ≡ unmoved m (drop m c.args.moves.now) c.args.jobs.now.items) whole
    (sym (ap (λ ms. unmoved (length c.args.moves.now) ms c.args.jobs.now.items)
    (drop_all (length c.args.moves.now) c.args.moves.now (omega arith))))

pub swap-requires-clause-i_in_bounds : goal.swap-requires-clause-i_in_bounds
swap-requires-clause-i_in_bounds g c =
    let k = length c.args.moves.now - 1 - c.loop-done.done in
    let l : k < length c.args.moves.now = omega (arith, c.loop-done-test.true) in
    let long = ap length c.loop-done.invariant
    ∙ length-unmoved (length c.args.moves.now - c.loop-done.done)
    (drop (length c.args.moves.now - c.loop-done.done) c.args.moves.now) c.args.jobs.now.items in
    let h = (moves_at (length c.args.jobs.now.items) 0 c.args.moves.now k 0 c.requires l).0 in
    subst (λ n. k < n) (sym (c.loop-done.jobs.ok.0 ∙ long)) (omega (arith, h))

pub swap-requires-clause-j_in_bounds : goal.swap-requires-clause-j_in_bounds
swap-requires-clause-j_in_bounds g c =
    let k = length c.args.moves.now - 1 - c.loop-done.done in
    let l : k < length c.args.moves.now = omega (arith, c.loop-done-test.true) in
    let long = ap length c.loop-done.invariant
    ∙ length-unmoved (length c.args.moves.now - c.loop-done.done)
    (drop (length c.args.moves.now - c.loop-done.done) c.args.moves.now) c.args.jobs.now.items in
    subst (λ n. c.place_before-place.result < n) (sym (c.loop-done.jobs.ok.0 ∙ long))
    (subst (λ m. m < length c.args.jobs.now.items) (sym (c.place_before-place.ensures c.place_before-place.result))
    (moves_at (length c.args.jobs.now.items) 0 c.args.moves.now k c.place_before-place.result c.requires l).1)

pub loop-done-preserved : goal.loop-done-preserved
loop-done-preserved g c =
    let k = length c.args.moves.now - 1 - c.loop-done.done in
    let l : k < length c.args.moves.now = omega (arith, c.loop-done-test.true) in
    let next : length c.args.moves.now - c.loop-done.done ≡ k + 1 = omega (arith, c.loop-done-test.true) in
    let here : length c.args.moves.now - (c.loop-done.done + 1) ≡ k = omega (arith, c.loop-done-test.true) in
    subst (λ m. c.swap.new.self.items ≡ unmoved m (drop m c.args.moves.now) c.args.jobs.now.items) (sym here)
    (c.swap.ensures.items
    ∙ unmoved-more c.args.moves.now k c.place_before-place.result c.args.jobs.now.items c.loop-done.jobs.items l
    (c.place_before-place.ensures c.place_before-place.result)
    (subst (λ m. c.loop-done.jobs.items ≡ unmoved m (drop m c.args.moves.now) c.args.jobs.now.items) next
    c.loop-done.invariant))

pub returns : goal.returns
returns g c =
    let none : length c.args.moves.now - c.loop-done.done ≡ 0 = omega (arith, c.loop-done-test.false) in
    subst (λ m. c.loop-done.jobs.items ≡ unmoved m (drop m c.args.moves.now) c.args.jobs.now.items) none
    c.loop-done.invariant
