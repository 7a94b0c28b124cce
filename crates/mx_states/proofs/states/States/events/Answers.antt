use Rattle.std.proofs.Common.{length, sym, subst, ◌∙◌}
use Rattle.mx_states.specs.KeyNumbers.{AllBelow}
use Rattle.mx_states.proofs.ShownLemmas.{below-at}
use Rattle.mx_states.proofs.states.States.events.Goals as goal

pub events_in_order-requires-clause-below : goal.events_in_order-requires-clause-below
events_in_order-requires-clause-below c =
    subst (AllBelow (length c.self.inside.keys)) (sym (c.deref.ensures.value ∙ c.in_ok-entries.ensures.entries))
    (below-at (length c.self.inside.keys) c.self.inside.snapshots c.args.number c.self.invariant.below)
