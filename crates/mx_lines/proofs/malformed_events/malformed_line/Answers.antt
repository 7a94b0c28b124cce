use Rattle.std.proofs.Common.{[]}
use Rattle.mx_lines.proofs.malformed_events.malformed_line.Goals as goal

pub returns : goal.returns
returns c = c.in_ok-bytes.ensures.ok _ (c.write_malformed.ensures [] c.new-line.ensures.text)
