use Rattle.std.proofs.Common.{sym}
use Rattle.mx_pdu.proofs.FormatLemmas.{content-there}
use Rattle.mx_pdu.proofs.rule_contents.rule_content_at.Goals as goal

pub unreachable-requires : goal.unreachable-requires
unreachable-requires c = content-there _ c.requires (sym c.in-None.ensures)
