use Rattle.mx_states.specs.KeyNumbers.{AllBelow}
use Rattle.std.proofs.Common.{length, sym, subst}
use Rattle.mx_states.proofs.KeyNumberLemmas.{grown-none}
use Rattle.mx_states.proofs.ShownLemmas.{are_shown-step}
use Rattle.mx_states.proofs.states.States.add_empty.Goals as goal

pub invariant_of-self : goal.invariant_of-self
invariant_of-self c =
    let keys = c.self.inside.keys in
    are_shown-step c.add_whole.result keys keys c.self.inside.snapshots c.add_whole.new.self c.new.result.items c.self.invariant (grown-none keys) c.self.invariant.distinct
    (subst (AllBelow (length keys)) (sym c.new.ensures.items) tt) c.add_whole.ensures.added c.add_whole.ensures.err
