use Rattle.std.proofs.Common.{[], refl}
use Rattle.mx_canon.proofs.streaming.text_length.Goals as goal

pub returns : goal.returns
returns c = c.write_text.ensures [] refl
