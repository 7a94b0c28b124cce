use Rattle.std.proofs.Common.{length, sym, subst, ◌∙◌}
use Rattle.mx_states.specs.KeyNumbers.{AllBelow}
use Rattle.mx_states.proofs.ShownLemmas.{below-at}
use Rattle.mx_states.proofs.states.States.map.Goals as goal

pub map_of-requires-clause-below : goal.map_of-requires-clause-below
map_of-requires-clause-below c =
    subst (AllBelow (length c.self.inside.keys)) (sym (c.deref.ensures.value ∙ c.in_ok-entries.ensures.entries))
    (below-at (length c.self.inside.keys) c.self.inside.snapshots c.args.number c.self.invariant.below)
