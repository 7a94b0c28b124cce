use Rattle.std.proofs.Common.{◌++◌, arith, subst}
use Rattle.mx_audit.specs.Pictures.{arrow_text}
use Rattle.mx_lines.proofs.WalkLemmas.{walked-on, walked-all}
use Rattle.mx_audit.proofs.pictures.write_arrows.Goals as goal

pub loop-prev-preserved : goal.loop-prev-preserved
loop-prev-preserved g c = λ taken had.
    let l = c.loop-prev in
    let text = arrow_text c.args.number in
    let (out, has, is) = l.invariant taken had in (
      out ++ text c.prev-item.result,
      c.write_arrow.ensures _ has,
      walked-on text out _ c.args.prev_events.now l.prev-index c.prev-item.result c.prev-item.result (omega arith) c.prev-item.is is,
    )

pub returns : goal.returns
returns g c = λ taken had.
    let l = c.loop-prev in
    let (out, has, is) = l.invariant taken had in
    subst (g.S.TextSink.has_taken l.sink) (walked-all (arrow_text c.args.number) out _ c.args.prev_events.now l.prev-index (omega arith) is) has
