use Rattle.std.proofs.Common.{[]}
use Rattle.mx_lines.proofs.refused_lines.refused_line.Goals as goal

pub returns : goal.returns
returns c = c.in_ok-bytes.ensures.ok _ (c.write_refused.ensures [] c.new-line.ensures.text)
