use Rattle.std.proofs.Common.{map, sym, subst, ap, take, ◌∙◌}
use Rattle.mx_states.specs.KeyNumbers.{AreShown, shown}
use Rattle.mx_states.proofs.ShownLemmas.{are_shown-take, map-take}
use Rattle.mx_states.proofs.states.States.truncate.Goals as goal

pub invariant_of-self : goal.invariant_of-self
invariant_of-self c = subst (AreShown c.self.inside.keys) (sym c.truncate.ensures) (are_shown-take c.args.count c.self.inside.keys c.self.inside.snapshots c.self.invariant)

pub returns : goal.returns
returns c =
    ap (map (shown c.self.inside.keys)) c.truncate.ensures ∙ map-take (shown c.self.inside.keys) c.args.count c.self.inside.snapshots ∙ ap (take c.args.count) c.self.view_is
