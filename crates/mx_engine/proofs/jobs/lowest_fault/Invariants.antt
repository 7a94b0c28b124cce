use Rattle.std.proofs.Common.{◌≡◌, drop, fold}
use Rattle.mx_engine.specs.Jobs.{lower_of, lowest_of, faults_of}
use Rattle.mx_engine.proofs.jobs.lowest_fault.Given as goal

-- the lowest so far, with those that are left
abbrev pub invariant-loop-job : goal.invariant-loop-job
invariant-loop-job g l = fold lower_of l.lowest (faults_of (drop l.job-index l.fn.jobs)) ≡ lowest_of (faults_of l.fn.jobs)
