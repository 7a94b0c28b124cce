use Rattle.std.proofs.Common.{[]}
use Rattle.mx_page.proofs.escaping.escaped.Goals as goal

pub returns : goal.returns
returns c = c.in_ok-bytes.ensures.ok _ (c.write_escaped.ensures [] c.in_ok-page.ensures.text)
