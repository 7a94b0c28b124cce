use Rattle.mx_world.proofs.PartLemmas.{all-more, all-in}
use Rattle.mx_world.proofs.parts.parts_are_sound.Goals as goal

pub loop-part-preserved : goal.loop-part-preserved
loop-part-preserved g c =
    all-more g.P.Part.is_sound c.args.parts.now c.loop-part.part-index c.part-item.result c.loop-part-test.true c.part-item.is c.loop-part.invariant c.soundness.ensures

pub returns : goal.returns
returns g c = all-in g.P.Part.is_sound c.args.parts.now c.loop-part.part-index c.loop-part-test.false c.loop-part.invariant
