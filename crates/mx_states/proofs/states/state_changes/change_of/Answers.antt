use Rattle.std.proofs.Common.{ap₂, ◌∙◌}
use Rattle.mx_states.specs.Numbered.{edited, state_at}
use Rattle.mx_states.proofs.ChangeLemmas.{change-is}
use Rattle.mx_states.proofs.states.state_changes.change_of.Goals as goal

pub returns-clause-made : goal.returns-clause-made
returns-clause-made c =
    ap₂ (λ t p. edited t (state_at c.args.states.now c.args.number) p) c.in_ok-taken.ensures c.in_ok-puts.ensures
    ∙ change-is c.args.taken.now (state_at c.args.states.now c.args.number) c.args.puts.now c.state_is_sorted.ensures c.entries.ensures.sorted
