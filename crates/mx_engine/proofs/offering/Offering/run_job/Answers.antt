use Rattle.mx_engine.proofs.RunLemmas.{there_none, there_more, run_idle, run_through, run_stopped}
use Rattle.mx_engine.proofs.offering.Offering.run_job.Goals as goal

pub loop-place-init : goal.loop-place-init
loop-place-init g c = there_none c.args.self.now.turns.docks.now c.args.self.now.turns.caller c.args.self.now.origin.now c.args.events.now
    c.args.job.now c.requires

pub returns-then-not-job : goal.returns-then-not-job
returns-then-not-job g c =
    run_idle c.args.self.now.turns.docks.now c.args.self.now.turns.caller c.args.self.now.origin.now c.args.events.now c.args.job.now
    c.requires c.if-not-job.true

pub loop-place-preserved : goal.loop-place-preserved
loop-place-preserved g c =
    there_more c.args.self.now.turns.docks.now c.args.self.now.turns.caller c.args.self.now.origin.now c.args.events.now c.loop-place.place
    c.index-events-place.result c.args.job.now c.loop-place.job c.offer_in_job.new.job
    c.loop-place-test.true c.index-events-place.is c.loop-place.invariant c.in-Ok.ensures.seated c.in-Ok.ensures.same
    c.in-Ok.ensures.ok

pub returns-in-Err : goal.returns-in-Err
returns-in-Err g c =
    run_stopped c.args.self.now.turns.docks.now c.args.self.now.turns.caller c.args.self.now.origin.now c.args.events.now c.loop-place.place
    c.index-events-place.result c.in-Err.error c.args.job.now c.loop-place.job c.offer_in_job.new.job
    c.loop-place-test.true c.index-events-place.is c.loop-place.invariant c.in-Err.ensures.seated c.in-Err.ensures.same
    c.in-Err.ensures.err.0 c.in-Err.ensures.err.1

pub returns : goal.returns
returns g c = run_through c.args.self.now.turns.docks.now c.args.self.now.turns.caller c.args.self.now.origin.now c.args.events.now
    c.loop-place.place c.args.job.now c.loop-place.job c.loop-place-test.false c.requires c.loop-place.invariant
