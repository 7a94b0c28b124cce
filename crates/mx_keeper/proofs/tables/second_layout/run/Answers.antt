use Rattle.mx_keeper.proofs.MoveLemmas.{is_stopped}
use Rattle.mx_keeper.proofs.tables.second_layout.run.Goals as goal

pub returns-in-Err-clause-refused : goal.returns-in-Err-clause-refused
returns-in-Err-clause-refused g c clean is = is_stopped _ _ _ _ _ c.requires (c.in-Err.ensures.runs clean) (λ short. let told = c.fault_of.ensures.memory.1 short in absurd cc)
