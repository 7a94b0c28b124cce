use Rattle.mx_auth.proofs.NeededKeyLemmas.{rules-needed_keys}
use Rattle.mx_auth.proofs.judging.agreeing_states_judge_alike.Goals as goal

pub returns : goal.returns
returns c = rules-needed_keys
