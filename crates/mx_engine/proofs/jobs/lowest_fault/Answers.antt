use Rattle.mx_engine.specs.Jobs.{lowest_of, faults_of}
use Rattle.mx_engine.proofs.ToldLemmas.{fault_more, fault_all}
use Rattle.mx_engine.proofs.jobs.lowest_fault.Goals as goal

pub loop-job-preserved : goal.loop-job-preserved
loop-job-preserved g c =
    fault_more c.args.jobs.now c.loop-job.job-index c.job-item.result c.loop-job.lowest c.lower-lowest.result
    (lowest_of (faults_of c.args.jobs.now)) c.loop-job-test.true c.job-item.is c.lower-lowest.ensures
    c.loop-job.invariant

pub returns : goal.returns
returns g c = fault_all c.args.jobs.now c.loop-job.job-index c.loop-job.lowest (lowest_of (faults_of c.args.jobs.now))
    c.loop-job-test.false c.loop-job.invariant
