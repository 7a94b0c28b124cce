use Rattle.std.proofs.Common.{◌++◌, get_or, refl, arith, subst}
use Rattle.mx_page.specs.Escaping.{escaped_byte}
use Rattle.mx_page.proofs.PieceLemmas.{list-on, list-all}
use Rattle.mx_page.proofs.escaping.write_escaped.Goals as goal

pub loop-byte-preserved : goal.loop-byte-preserved
loop-byte-preserved g c = λ taken had.
    let l = c.loop-byte in
    let xs = c.args.text.now in
    let (out, has, is) = l.invariant taken had in (
      out ++ escaped_byte (get_or xs l.byte-index 0),
      c.write_escaped_byte.ensures _ has,
      list-on escaped_byte out _ xs l.byte-index 0 (get_or xs l.byte-index 0) c.loop-byte-test.true refl is,
    )

pub returns : goal.returns
returns g c = λ taken had.
    let l = c.loop-byte in
    let (out, has, is) = l.invariant taken had in
    subst (g.S.TextSink.has_taken l.sink) (list-all escaped_byte out _ c.args.text.now l.byte-index (omega arith) is) has
