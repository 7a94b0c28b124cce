use Rattle.std.proofs.Common.{sym, ◌∙◌, subst, arith}
use Rattle.mx_engine.specs.Jobs.{IsReady, IsRun}
use Rattle.mx_engine.specs.declared.jobs.Job.{Job}
use Rattle.mx_engine.proofs.RowLemmas.{none_replaced, replaced-more, get_or-in}
use Rattle.mx_engine.proofs.offering.Offering.run_in_turn.Goals as goal

pub loop-number-init : goal.loop-number-init
loop-number-init g c =
    none_replaced (λ _ (x y : Job g.row.K.Denot). IsRun c.args.self.now.turns.docks.now c.args.self.now.turns.caller
    c.args.self.now.origin.now c.args.events.now x y) c.args.jobs.now

pub run_job-requires : goal.run_job-requires
run_job-requires g c =
    let d = c.index-jobs-number.result in
    subst (IsReady c.args.self.now.turns.docks.now c.args.self.now.turns.caller c.args.events.now)
    (sym (c.loop-number.invariant.todo c.loop-number.number d (omega arith)))
    (c.requires c.loop-number.number d (omega (arith, c.loop-number-test.true)))

pub loop-number-preserved : goal.loop-number-preserved
loop-number-preserved g c =
    let n = c.loop-number.number in
    let was = c.index-jobs-number.result in
    let r = c.loop-number.invariant in
    replaced-more (λ _ (x y : Job g.row.K.Denot). IsRun c.args.self.now.turns.docks.now c.args.self.now.turns.caller
    c.args.self.now.origin.now c.args.events.now x y) n c.args.jobs.now c.loop-number.jobs c.run_job.new.job r (omega
    (arith, c.loop-number-test.true))
    (λ d. subst (λ (x : Job g.row.K.Denot). IsRun c.args.self.now.turns.docks.now c.args.self.now.turns.caller c.args.self.now.origin.now
    c.args.events.now x c.run_job.new.job)
    (r.todo n was (omega arith) ∙ get_or-in c.args.jobs.now n was d (omega (arith, c.loop-number-test.true)))
    c.run_job.ensures)

pub returns : goal.returns
returns g c = let r = c.loop-number.invariant in
    record { count = r.long; each = λ n d l. r.done n d (omega (arith, l, c.loop-number-test.false)) }
