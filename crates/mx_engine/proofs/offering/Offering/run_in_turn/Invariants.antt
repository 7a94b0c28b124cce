use Rattle.mx_engine.specs.Jobs.{IsRun}
use Rattle.mx_engine.specs.declared.jobs.Job.{Job}
use Rattle.mx_engine.proofs.RowLemmas.{AreReplaced}
use Rattle.mx_engine.proofs.offering.Offering.run_in_turn.Given as goal

abbrev pub invariant-loop-number : goal.invariant-loop-number
invariant-loop-number g l =
    AreReplaced (λ _ (x y : Job g.row.K.Denot). IsRun l.fn.self.turns.docks.now l.fn.self.turns.caller l.fn.self.origin.now l.fn.events x y)
    l.number l.fn.jobs l.jobs
