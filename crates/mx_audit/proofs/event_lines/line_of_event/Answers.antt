use Rattle.std.proofs.Common.{[]}
use Rattle.mx_audit.proofs.event_lines.line_of_event.Goals as goal

pub returns : goal.returns
returns c = c.in_ok-bytes.ensures.ok _ (c.write_event_line.ensures [] c.in_ok-line.ensures.text)
