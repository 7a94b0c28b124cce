use Rattle.std.proofs.Common.{ap, sym}
use Rattle.std.specs.Fmt.{digits}
use Rattle.std.specs.Str.{chars}
use Rattle.mx_canon.specs.Canonical.{canonical_text}
use Rattle.mx_log.specs.LinesShown.{refusal_output}
use Rattle.mx_log.proofs.answers.writing.refusal_line.Goals as goal

pub returns-in-Step : goal.returns-in-Step
unfolding canonical_text chars digits
returns-in-Step c = ap refusal_output (sym c.in-Step.is)

pub returns-in-Request : goal.returns-in-Request
unfolding canonical_text chars digits
returns-in-Request c = ap refusal_output (sym c.in-Request.is)
