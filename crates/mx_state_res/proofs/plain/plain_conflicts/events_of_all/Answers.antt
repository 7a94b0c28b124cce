use Rattle.std.proofs.Common.{ap, ◌∙◌}
use Rattle.mx_graph.specs.Record.{is_in}
use Rattle.mx_state_res.proofs.ConflictLemmas.{joined-is}
use Rattle.mx_state_res.proofs.plain.plain_conflicts.events_of_all.Goals as goal

pub returns-clause-same : goal.returns-clause-same
returns-clause-same c p = c.in_ok-all.ensures.same p ∙ ap (λ xs. is_in xs p) (c.deref.ensures.value ∙ c.in_ok-joined.ensures) ∙ joined-is c.args.chains.now p
