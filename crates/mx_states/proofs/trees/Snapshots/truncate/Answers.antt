use Rattle.std.proofs.Common.{◌≡◌, ap, ap₂, sym, subst, take, ◌∙◌}
use Rattle.std.proofs.lemmas.List.{take-map}
use Rattle.mx_states.specs.StoredSnapshots.{AllSound, snapshot_of, snapshots_of, trees_at}
use Rattle.mx_states.proofs.StoredLemmas.{snapshots-cut, sound-cut, sound-take}
use Rattle.mx_states.proofs.trees.Snapshots.truncate.Goals as goal

pub invariant_of-self : goal.invariant_of-self
invariant_of-self c =
    let trees = c.self.inside.trees.items in
    let all = take c.args.count c.self.inside.stored.items in
    let fewer : c.truncate-2.new.self.items ≡ take (trees_at all) trees = c.truncate-2.ensures.items ∙ ap (λ n. take n trees) (c.trees_with.ensures ∙ ap trees_at (c.deref.ensures.value ∙ c.truncate.ensures.items)) in
    subst (λ ss. AllSound c.truncate-2.new.self.items ss) (sym c.truncate.ensures.items)
    (subst (λ ts. AllSound ts all) (sym fewer) (sound-cut trees all (sound-take trees c.args.count c.self.inside.stored.items c.self.invariant)))

pub returns : goal.returns
returns c =
    let trees = c.self.inside.trees.items in
    let all = take c.args.count c.self.inside.stored.items in
    let fewer : c.truncate-2.new.self.items ≡ take (trees_at all) trees = c.truncate-2.ensures.items ∙ ap (λ n. take n trees) (c.trees_with.ensures ∙ ap trees_at (c.deref.ensures.value ∙ c.truncate.ensures.items)) in
    ap₂ snapshots_of fewer c.truncate.ensures.items
    ∙ snapshots-cut trees all (sound-take trees c.args.count c.self.inside.stored.items c.self.invariant)
    ∙ sym (take-map (snapshot_of trees) c.args.count c.self.inside.stored.items)
    ∙ ap (take c.args.count) c.self.view_is
