use Rattle.std.proofs.Common.{◌≡◌, ◌≤◌, ◌/◌, length, ap, subst, sym, ◌∙◌}
use Rattle.mx_states.specs.KeyTrees.{at, below, root}
use Rattle.mx_states.proofs.KeyTreeLemmas.{apart-one, at-below, below-lower, half-some}
use Rattle.mx_states.proofs.trees.key_trees.event_at.Goals as goal

pub loop-place-preserved : goal.loop-place-preserved
loop-place-preserved c =
    let trees = c.args.trees.now in
    let under = c.loop-place.under in
    let place = c.loop-place.place in
    let apart = apart-one place c.loop-place-test.true in
    let is : c.below-under.result ≡ below (root trees under) place = c.below-under.ensures ∙ ap (λ t. below t place) c.root.ensures in
    record {
      some = half-some place c.loop-place.invariant.some apart;
      under = subst (λ t. t ≤ length trees) (sym is) (below-lower trees under place c.requires.lower c.loop-place.invariant.under);
      same = ap (λ t. at trees t (place / 2)) is ∙ sym (at-below trees under place c.loop-place.invariant.some apart) ∙ c.loop-place.invariant.same;
    }
