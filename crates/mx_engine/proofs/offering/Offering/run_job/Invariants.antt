use Rattle.mx_engine.proofs.RunLemmas.{SoFarThere}
use Rattle.mx_engine.proofs.offering.Offering.run_job.Given as goal

-- the events so far were offered
abbrev pub invariant-loop-place : goal.invariant-loop-place
invariant-loop-place g l = SoFarThere l.fn.self.turns.docks.now l.fn.self.turns.caller l.fn.self.origin.now l.fn.events l.place l.fn.job l.job
