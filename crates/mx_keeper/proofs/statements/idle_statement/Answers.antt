use Rattle.std.proofs.Common.{[]}
use Rattle.mx_keeper.proofs.ProbeLemmas.{probe_whole}
use Rattle.mx_keeper.proofs.RefusalLemmas.{not_run}
use Rattle.mx_keeper.proofs.statements.idle_statement.Goals as goal

pub returns-in-Err-clause-store : goal.returns-in-Err-clause-store
returns-in-Err-clause-store g c clean is =
    not_run _ _ _ [] (λ _. probe_whole _) _ (λ short. let told = c.fault_of.ensures.memory.1 short in absurd cc) (c.in-Err.ensures.err clean [])
