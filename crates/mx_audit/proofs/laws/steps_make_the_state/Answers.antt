use Rattle.mx_audit.proofs.StepLemmas.{resolve-steps}
use Rattle.mx_audit.proofs.laws.steps_make_the_state.Goals as goal

pub returns : goal.returns
returns c = resolve-steps
