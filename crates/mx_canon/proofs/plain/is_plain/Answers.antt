use Rattle.mx_canon.proofs.PlainLemmas.{plain-stays}
use Rattle.mx_canon.proofs.plain.is_plain.Goals as goal

pub returns : goal.returns
returns c = plain-stays c.has_plain_blocks.result c.args.text.now c.has_plain_blocks.ensures
