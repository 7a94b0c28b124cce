use Rattle.std.proofs.Common.{◌<◌, length, refl, sym, ◌∙◌, ap, subst, arith}
use Rattle.mx_engine.specs.Jobs.{moved, AreMoves}
use Rattle.mx_engine.proofs.MoveLemmas.{length-moved}
use Rattle.mx_engine.proofs.moves.bring_forward.Goals as goal

pub loop-number-init : goal.loop-number-init
loop-number-init g c = record {
  forth = ap (λ ms. moved 0 ms c.args.jobs.now.items) (sym c.requires.none);
  within = subst (AreMoves (length c.args.jobs.now.items) 0) (sym c.requires.none) (omega arith);
  few = omega (arith, ap length c.requires.none);
  room = refl;
}

pub bring_job-requires-clause-number : goal.bring_job-requires-clause-number
bring_job-requires-clause-number g c =
    subst (λ n. c.loop-number.number < n)
    (sym (ap length c.loop-number.invariant.forth ∙ length-moved 0 c.loop-number.moves.items c.args.jobs.now.items))
    (omega (arith, c.loop-number-test.true))

pub loop-number-preserved : goal.loop-number-preserved
loop-number-preserved g c =
    let i = c.loop-number.invariant in
    let long = ap length i.forth ∙ length-moved 0 c.loop-number.moves.items c.args.jobs.now.items in
    record {
      forth = c.bring_job.ensures.jobs c.args.jobs.now.items i.forth;
      within = subst (λ n. AreMoves n 0 c.bring_job.new.moves.items) long
          (c.bring_job.ensures.within (subst (λ n. AreMoves n 0 c.loop-number.moves.items) (sym long) i.within));
      few = c.bring_job.ensures.few;
      room = c.bring_job.ensures.room ∙ i.room;
    }

pub returns : goal.returns
returns g c = record { jobs = c.loop-number.invariant.forth; within = c.loop-number.invariant.within }
