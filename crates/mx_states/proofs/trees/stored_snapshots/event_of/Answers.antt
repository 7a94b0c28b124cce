use Rattle.std.proofs.Common.{sym, ap, ◌∙◌}
use Rattle.std.specs.FinMap.Entries.{find}
use Rattle.std.specs.Ordering.{nat_cmp}
use Rattle.mx_states.specs.declared.trees.stored_snapshots.Stored.{Stored}
use Rattle.mx_states.specs.KeyTrees.{at_key}
use Rattle.mx_states.proofs.StoredLemmas.{find-in, snapshot-at, sound-at, there}
use Rattle.mx_states.proofs.trees.stored_snapshots.event_of.Goals as goal

pub returns : goal.returns
returns c =
    let trees = c.args.trees.now in
    let all = c.args.stored.now in
    let s = c.index-stored-place.result in
    let sound = sound-at trees all c.args.place s c.requires.sound (there all c.args.place s c.requires.in_range c.index-stored-place.is) in
    c.event_at.ensures ∙ ap (λ (t : Stored). at_key trees t.tree c.args.key) (sym c.index-stored-place.is) ∙ sym (ap (find nat_cmp c.args.key) (snapshot-at trees all c.args.place s c.requires.in_range c.index-stored-place.is) ∙ find-in trees all c.args.place s c.args.key sound)
