use Rattle.std.proofs.Common.{◌++◌, arith, subst}
use Rattle.mx_audit.specs.EventLines.{conflict_line}
use Rattle.mx_lines.proofs.WalkLemmas.{walked-on, walked-all}
use Rattle.mx_audit.proofs.resolution_lines.write_conflict.Goals as goal

pub loop-entry-preserved : goal.loop-entry-preserved
loop-entry-preserved g c = λ taken had.
    let l = c.loop-entry in
    let text = conflict_line c.args.timeline.now.kept c.args.place in
    let (out, has, is) = l.invariant taken had in (
      out ++ text c.entry-item.result,
      c.write_conflicted.ensures _ has,
      walked-on text out _ c.args.entries.now l.entry-index c.entry-item.result c.entry-item.result (omega arith) c.entry-item.is is,
    )

pub returns : goal.returns
returns g c = λ taken had.
    let l = c.loop-entry in
    let (out, has, is) = l.invariant taken had in
    subst (g.S.TextSink.has_taken l.sink) (walked-all (conflict_line c.args.timeline.now.kept c.args.place) out _ c.args.entries.now l.entry-index (omega arith) is) has
