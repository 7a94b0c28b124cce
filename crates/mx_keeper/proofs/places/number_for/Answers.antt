use Rattle.mx_keeper.proofs.PlaceLemmas.{place_number-more}
use Rattle.mx_keeper.proofs.places.number_for.Goals as goal

pub loop-byte-preserved : goal.loop-byte-preserved
loop-byte-preserved c = place_number-more c.args.name.now c.loop-byte.byte-index 0 c.args.count c.loop-byte.number c.loop-byte-test.true c.loop-byte.invariant
