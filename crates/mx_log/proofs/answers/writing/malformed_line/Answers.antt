use Rattle.std.proofs.Common.{refl}
use Rattle.std.specs.Str.{chars}
use Rattle.mx_canon.specs.Canonical.{canonical_text}
use Rattle.mx_log.proofs.answers.writing.malformed_line.Goals as goal

pub returns : goal.returns
unfolding canonical_text chars
returns c = refl
