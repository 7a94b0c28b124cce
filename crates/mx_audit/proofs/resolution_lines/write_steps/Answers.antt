use Rattle.std.proofs.Common.{◌++◌, arith, subst}
use Rattle.mx_audit.specs.EventLines.{step_text}
use Rattle.mx_lines.proofs.WalkLemmas.{walked-on, walked-all}
use Rattle.mx_audit.proofs.resolution_lines.write_steps.Goals as goal

pub loop-step-preserved : goal.loop-step-preserved
loop-step-preserved g c = λ taken had.
    let l = c.loop-step in
    let text = step_text c.args.timeline.now.kept c.args.order.now in
    let (out, has, is) = l.invariant taken had in (
      out ++ text c.step-item.result,
      c.write_step.ensures _ has,
      walked-on text out _ c.args.steps.now l.step-index c.step-item.result c.step-item.result (omega arith) c.step-item.is is,
    )

pub returns : goal.returns
returns g c = λ taken had.
    let l = c.loop-step in
    let (out, has, is) = l.invariant taken had in
    subst (g.S.TextSink.has_taken l.sink) (walked-all (step_text c.args.timeline.now.kept c.args.order.now) out _ c.args.steps.now l.step-index (omega arith) is) has
