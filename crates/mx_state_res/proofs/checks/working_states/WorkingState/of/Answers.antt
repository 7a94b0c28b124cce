use Rattle.mx_states.proofs.OverwrittenLemmas.{overwritten-empty}
use Rattle.mx_state_res.proofs.checks.working_states.WorkingState.of.Goals as goal

pub returns-clause-shown : goal.returns-clause-shown
returns-clause-shown c = overwritten-empty c.args.entries c.entries.ensures.sorted
