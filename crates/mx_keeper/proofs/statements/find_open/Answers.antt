use Rattle.std.proofs.Common.{arith}
use Rattle.sqlite.specs.Held.{state}
use Rattle.sqlite.specs.State.{HasCleanDisk}
use Rattle.sqlite.proofs.StateLemmas.{survives_weaker}
use Rattle.mx_keeper.proofs.ProbeLemmas.{probe_commits, probe_refused, probe_stays, probe_unchanged}
use Rattle.mx_keeper.proofs.statements.find_open.Goals as goal

pub returns-in-Ok-clause-open : goal.returns-in-Ok-clause-open
returns-in-Ok-clause-open g c clean =
    let s = c.execute.ensures.survives.clean in
    let first : HasCleanDisk (state g.S.Store c.args.connection.now) = omega arith in
    (probe_unchanged _ _ _ (rw (c.requires.probe first) at c.in-Ok.ensures.runs clean)).0.is_open

pub returns-in-Ok-clause-stays : goal.returns-in-Ok-clause-stays
returns-in-Ok-clause-stays g c clean =
    let s = c.execute.ensures.survives.clean in
    let first : HasCleanDisk (state g.S.Store c.args.connection.now) = omega arith in
    probe_stays _ _ c.requires.idle _ (rw (c.requires.probe first) at c.execute.ensures.runs clean)

pub returns-in-Ok-clause-survives : goal.returns-in-Ok-clause-survives
returns-in-Ok-clause-survives g c = survives_weaker _ _ _ _ (λ clean db put.
    let s = c.execute.ensures.survives.clean in
    let first : HasCleanDisk (state g.S.Store c.args.connection.now) = omega arith in
    probe_commits _ db (rw (c.requires.probe first) at put)) c.execute.ensures.survives

pub returns-in-Err-clause-stays : goal.returns-in-Err-clause-stays
returns-in-Err-clause-stays g c clean =
    let s = c.execute.ensures.survives.clean in
    let first : HasCleanDisk (state g.S.Store c.args.connection.now) = omega arith in
    probe_stays _ _ c.requires.idle _ (rw (c.requires.probe first) at c.execute.ensures.runs clean)

pub returns-in-Err-clause-store : goal.returns-in-Err-clause-store
returns-in-Err-clause-store g c clean is =
    let s = c.execute.ensures.survives.clean in
    let first : HasCleanDisk (state g.S.Store c.args.connection.now) = omega arith in
    probe_refused _ _ _ (λ short. let told = c.fault_of.ensures.memory.1 short in absurd cc) (rw (c.requires.probe first) at c.in-Err.ensures.runs clean)

pub returns-in-Err-clause-survives : goal.returns-in-Err-clause-survives
returns-in-Err-clause-survives g c = survives_weaker _ _ _ _ (λ clean db put.
    let s = c.execute.ensures.survives.clean in
    let first : HasCleanDisk (state g.S.Store c.args.connection.now) = omega arith in
    probe_commits _ db (rw (c.requires.probe first) at put)) c.execute.ensures.survives
