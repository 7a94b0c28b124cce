use Rattle.std.proofs.Common.{length, sym, ◌∙◌, ap, subst, arith}
use Rattle.std.specs.List.{swap}
use Rattle.mx_engine.specs.Jobs.{moved, AreMoves}
use Rattle.mx_engine.proofs.MoveLemmas.{moved-last, moves-snoc}
use Rattle.mx_engine.proofs.moves.bring_job.Goals as goal

pub returns-clause-jobs : goal.returns-clause-jobs
returns-clause-jobs g c = λ first is.
    c.swap.ensures.items ∙ ap (λ n. swap c.args.jobs.now.items n c.args.number) (c.len.ensures ∙ c.args.moves.now.ok.0)
    ∙ ap (λ xs. swap xs (length c.args.moves.now.items) c.args.number) is
    ∙ sym (moved-last c.args.moves.now.items c.args.number first)
    ∙ sym (ap (λ ms. moved 0 ms first) c.push_reserved.ensures.items)

pub returns-clause-within : goal.returns-clause-within
returns-clause-within g c = λ are.
    subst (AreMoves (length c.args.jobs.now.items) 0) (sym c.push_reserved.ensures.items)
    (moves-snoc (length c.args.jobs.now.items) 0 c.args.moves.now.items c.args.number are
    (omega (arith, c.requires.few, c.requires.number)) c.requires.number)
