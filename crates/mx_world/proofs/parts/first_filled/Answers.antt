use Rattle.mx_world.proofs.PartLemmas.{all-more, all-in, filled-here}
use Rattle.mx_world.proofs.parts.first_filled.Goals as goal

pub loop-number-preserved : goal.loop-number-preserved
loop-number-preserved g c =
    all-more g.P.Part.is_blank c.args.parts.now c.loop-number.number c.index-parts-number.result c.loop-number-test.true c.index-parts-number.is
    c.loop-number.invariant (c.has_no_entry.ensures.0 c.if-not-has_no_entry.false)

pub returns-then-not-has_no_entry-clause-filled : goal.returns-then-not-has_no_entry-clause-filled
returns-then-not-has_no_entry-clause-filled g c =
    filled-here g.P.Part.is_blank c.args.parts.now c.loop-number.number c.index-parts-number.result c.has_no_entry.result c.loop-number-test.true
    c.index-parts-number.is c.has_no_entry.ensures.1 c.if-not-has_no_entry.true

pub returns-clause-blank : goal.returns-clause-blank
returns-clause-blank g c = λ _. all-in g.P.Part.is_blank c.args.parts.now c.loop-number.number c.loop-number-test.false c.loop-number.invariant
