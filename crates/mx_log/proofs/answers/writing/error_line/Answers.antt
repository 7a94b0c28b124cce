use Rattle.std.proofs.Common.{ap, sym}
use Rattle.std.specs.Str.{chars}
use Rattle.mx_canon.specs.Canonical.{canonical_text}
use Rattle.mx_log.specs.LinesShown.{call_error_output}
use Rattle.mx_log.proofs.answers.writing.error_line.Goals as goal

pub returns-in-Memory : goal.returns-in-Memory
unfolding canonical_text chars
returns-in-Memory c = ap call_error_output (sym c.in-Memory.is)

pub returns-in-Storage : goal.returns-in-Storage
unfolding canonical_text chars
returns-in-Storage c = ap call_error_output (sym c.in-Storage.is)
