use Rattle.std.proofs.Common.{ap, sym, subst, ◌∙◌}
use Rattle.mx_states.specs.Numbered.{state_at}
use Rattle.mx_states.specs.SnapshotEntries.{snapshot}
use Rattle.mx_states.proofs.KeyLemmas.{Sorted}
use Rattle.mx_states.proofs.ShownLemmas.{shown-at, sorted-shown}
use Rattle.mx_states.proofs.states.States.state_is_sorted.Goals as goal

pub returns : goal.returns
returns c =
    subst Sorted (sym (shown-at c.self.inside.keys c.self.inside.snapshots c.args.number) ∙ ap (λ ss. state_at ss c.args.number) c.self.view_is)
    (sorted-shown c.self.inside.keys (snapshot c.self.inside.snapshots c.args.number))
