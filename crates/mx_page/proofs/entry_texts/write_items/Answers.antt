use Rattle.std.proofs.Common.{◌++◌, get_or, refl, arith, subst}
use Rattle.mx_page.specs.EntryTexts.{comma_for}
use Rattle.mx_page.proofs.PieceLemmas.{list-on, list-all}
use Rattle.mx_page.proofs.entry_texts.write_items.Goals as goal

pub loop-byte-preserved : goal.loop-byte-preserved
loop-byte-preserved g c = λ taken had.
    let l = c.loop-byte in
    let xs = c.args.lines.now in
    let (out, has, is) = l.invariant taken had in (
      out ++ comma_for (get_or xs l.byte-index 0),
      c.write_item_byte.ensures _ has,
      list-on comma_for out _ xs l.byte-index 0 (get_or xs l.byte-index 0) c.loop-byte-test.true refl is,
    )

pub returns : goal.returns
returns g c = λ taken had.
    let l = c.loop-byte in
    let (out, has, is) = l.invariant taken had in
    subst (g.S.TextSink.has_taken l.sink) (list-all comma_for out _ c.args.lines.now l.byte-index (omega arith) is) has
