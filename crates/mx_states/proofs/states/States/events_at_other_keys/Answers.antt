use Rattle.std.proofs.Common.{length, sym, subst, ◌∙◌}
use Rattle.mx_states.specs.KeyNumbers.{AllBelow}
use Rattle.mx_states.proofs.ShownLemmas.{below-at}
use Rattle.mx_states.proofs.states.States.events_at_other_keys.Goals as goal

pub events_at_other_keys-requires-clause-below : goal.events_at_other_keys-requires-clause-below
events_at_other_keys-requires-clause-below c =
    let keys = c.self.inside.keys in
    subst (AllBelow (length keys)) (sym (c.deref.ensures.value ∙ c.in_ok-entries.ensures.entries)) (below-at (length keys) c.self.inside.snapshots c.args.number c.self.invariant.below)
